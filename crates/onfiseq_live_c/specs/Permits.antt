-- What it means that bursts are told: each of their cycles is permitted where it comes, whatever stands in the buffer and whatever the chip gives.
use Rattle.std.specs.Prelude.{◌≡◌, ℕ, List, [], ◌∷◌, None, Ok, length}
use Rattle.nand_geometry.specs.declared.parts.Parts.{Parts}
use Rattle.onfi_cycle.specs.declared.item.Item.{Item}
use Rattle.onfi_cycle.specs.declared.item.Kind.TheVariants.{Dout}
use Rattle.onfi_cycle.specs.Channel.{cycle}
use Rattle.onfi_cycle.specs.Permitted.{broken}
use Rattle.onfi_cycle.specs.State.{Follows}
use Rattle.micro_program.specs.Moves.{Move, Give, Take}
use Rattle.seq_live.specs.Burst.{all_moves}
use Rattle.onfiseq_live_c.specs.declared.live.OnfiseqLive.{OnfiseqLive}
use Rattle.onfiseq_live_c.specs.declared.job.OnfiseqJob.{OnfiseqJob}
use Rattle.onfiseq_live_c.specs.Live.{state_of}
use Rattle.onfiseq_live_c.specs.Next.{Told, next_of}

-- each cycle of some moves on a target is permitted where it comes, whatever bytes the outputs give
abbrev pub ArePermitted : Parts → ℕ → ℕ → List Move → List Item → Type 0
ArePermitted g n ce [] past = Unit {0}
ArePermitted g n ce (Give kind byte ∷ rest) past = (broken g n past (cycle ce kind byte) ≡ None) × ArePermitted g n ce rest (cycle ce kind byte ∷ past)
ArePermitted g n ce (Take ∷ rest) past = (byte : ℕ) → (broken g n past (cycle ce Dout byte) ≡ None) × ArePermitted g n ce rest (cycle ce Dout byte ∷ past)

-- the law: where bursts are told, their cycles are permitted after each past that the channel's state follows
abbrev pub BurstsArePermitted : Type 0
BurstsArePermitted =
    (v : OnfiseqLive) (j : OnfiseqJob) (file : List ℕ) (t : Told) → next_of v j file ≡ Ok t
    → (g : Parts) (n : ℕ) (past : List Item) → Follows g n (state_of v) past
    → (buffer : List ℕ) → length buffer ≡ j.buffer → ArePermitted g n j.ce (all_moves buffer t.bursts) past
