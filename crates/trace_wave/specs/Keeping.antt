-- What is kept while a dump is written.
use Rattle.std.specs.Prelude.{◌≡◌, ℕ, Bool, true, false, ◌||◌, not, List, [], ◌∷◌, Option, Some, None, take}
use Rattle.nand_geometry.specs.declared.parts.Parts.{Parts}
use Rattle.onfi_cycle.specs.declared.item.Kind.{Kind}
use Rattle.onfi_cycle.specs.declared.item.Kind.TheVariants.{Cmd, Adr, Din, Dout}
use Rattle.onfi_cycle.specs.declared.item.Item.{Item}
use Rattle.onfi_cycle.specs.declared.item.Item.TheVariants.{Cyc, Rdy, Ard}
use Rattle.onfi_cycle.specs.declared.tail_facts.TailFacts.{TailFacts}
use Rattle.onfi_cycle.specs.declared.command.Command.{Command}
use Rattle.onfi_cycle.specs.declared.command.Command.TheVariants.{ResetLun}
use Rattle.onfi_cycle.specs.Command.{reads_identity}
use Rattle.onfi_cycle.specs.Sequence.{opened, takes_features, facts_of, tail}
use Rattle.onfi_cycle.specs.Readies.{starts_work}
use Rattle.onfi_cycle.specs.State.{Follows}
use Rattle.bus_lines.specs.declared.lines.Lines.{Lines}
use Rattle.trace_wave.specs.Levels.{told_levels, told_lines}
use Rattle.trace_wave.specs.declared.channel.Channel.{Channel}
use Rattle.trace_wave.specs.declared.dump.Dump.{Dump}
use Rattle.trace_wave.specs.Wave.{Drawing}

abbrev pub newest_of : List Item → Option Item
newest_of [] = None
newest_of (i ∷ past) = Some i

-- the channel is what this past leaves of it
pub record Stands (g : Parts) (targets : ℕ) (past : List Item) (c : Channel) : Type 0 where
  pub follows : Follows g targets c.state past
  pub newest : c.newest ≡ newest_of past

abbrev pub is_reset_lun : Command → Bool
is_reset_lun ResetLun = true
is_reset_lun _ = false

-- an address after this tail starts no work and ends none
abbrev pub address_keeps_work : TailFacts → Bool
address_keeps_work t = not (opened (λ c n. reads_identity c || is_reset_lun c) t.opening)

abbrev pub kind_keeps_work : List Item → ℕ → Kind → Item → Bool
kind_keeps_work past ce Cmd i = not (starts_work i)
kind_keeps_work past ce Adr i = address_keeps_work (facts_of (tail past ce))
kind_keeps_work past ce Din i = not (takes_features (facts_of (tail past ce)).phase)
kind_keeps_work past ce Dout i = true

-- an item starts no work and ends none
abbrev pub keeps_work : List Item → Item → Bool
keeps_work past (Cyc c) = kind_keeps_work past c.ce c.kind (Cyc c)
keeps_work past (Rdy _ _ _) = false
keeps_work past (Ard _ _ _) = false

-- what is kept begins with the levels of R/B# and the LUNs
abbrev pub Keeps : Parts → ℕ → List Item → List ℕ → Type 0
Keeps g targets past kept = take (told_lines targets g.luns) kept ≡ told_levels g targets past

-- no strobe is low
abbrev pub AreHigh : Lines → Type 0
AreHigh l = (l.we ≡ true) × (l.re ≡ true)

-- the dump is as far as this drawing
pub record IsAt (g : Parts) (targets : ℕ) (d : Drawing) (dump : Dump) : Type 0 where
  pub stands : Stands g targets d.past dump.channel
  pub items : dump.items ≡ d.items
  pub rule : dump.rule ≡ d.rule
  pub lines : dump.lines ≡ d.lines
  pub high : AreHigh dump.lines
  pub kept : Keeps g targets d.past dump.kept
