-- What is told of the counter of a word.
use Rattle.std.proofs.Common.{◌≡◌, ℕ, ◌+◌, Bool, true, false, cond, leb, ltb, ◌||◌, ◌&&◌, not, List, Option, Some, None, is_none, refl, sym, ap, ◌∙◌, reverse}
use Rattle.nand_geometry.specs.declared.parts.Parts.{Parts}
use Rattle.nand_geometry.specs.Limits.{planes}
use Rattle.onfi_cycle.specs.declared.item.Cycle.{Cycle}
use Rattle.onfi_cycle.specs.declared.item.Item.{Item}
use Rattle.onfi_cycle.specs.declared.item.Item.TheVariants.{Cyc}
use Rattle.onfi_cycle.specs.declared.tail_facts.TailFacts.{TailFacts}
use Rattle.onfi_cycle.specs.Sequence.{tail, facts_of}
use Rattle.onfi_cycle.specs.Channel.{Channel}
use Rattle.micro_word.specs.declared.word.Word.{Word}
use Rattle.micro_word.specs.declared.word.Word.TheVariants.{Address, Put}
use Rattle.target_bus.specs.Bus.{Traced, channel_of}
use Rattle.micro_program.specs.Program.{Job}
use Rattle.micro_verify.specs.declared.registers.Registers.{Registers}
use Rattle.micro_verify.specs.declared.playing.Outcome.{Outcome}
use Rattle.micro_verify.specs.declared.playing.Outcome.TheVariants.{Done, Stopped, Missing}
use Rattle.micro_verify.specs.Lazy.{Run, run_word, Counter, counter_at}
use Rattle.micro_verify.specs.Cause.{begins_wrong, wants_identity, lacks_bytes, tail_now}
use Rattle.micro_verify.specs.Calm.{counter_after}
use Rattle.micro_verify.specs.Playing.{lacks_told, IsSet, IsAt, IsLoneJob, HasPerformed}
use Rattle.micro_verify.proofs.PerformedWords.{came_of}

-- 1. words whose bytes may not be there

lacks_are : (g h : Parts) (j : Job) (run : Run) (rows limit : ℕ) (t : TailFacts) (r : Registers) (word : Word) → h ≡ g → t ≡ tail_now run → IsSet r run.done → rows ≡ j.text.rows → limit ≡ j.text.buffer → lacks_told h rows limit t r word ≡ lacks_bytes g j.text run word
lacks_are g h j run rows limit t r (Address from count) same tail_is set rows_are limit_is =
    λ i. begins_wrong (tail_is i) from count || (ltb 2 (from + count) && (leb (rows_are i) (set.index i) || leb (planes (same i)) (set.plane i))) || (wants_identity (tail_is i) && ltb 1 from)
lacks_are g h j run rows limit t r (Put len) same tail_is set rows_are limit_is = λ i. not (leb (set.place i + len) (limit_is i))
lacks_are g h j run rows limit t r _ same tail_is set rows_are limit_is = refl

geometry_is : (s : Channel) (b : Traced) → channel_of b ≡ s → b.geometry ≡ s.geometry
geometry_is s b same = ap (λ (c : Channel). c.geometry) same

pub lacks_there : (h : Parts) (s : Channel) (j : Job) (b : Traced) (r : Registers) (buffer : List ℕ) (run : Run) (rows limit : ℕ) (t : TailFacts) (word : Word) (lacks : Bool) → IsAt s j b r buffer run → t ≡ facts_of (tail b.past 0) → rows ≡ j.text.rows → limit ≡ j.text.buffer → lacks ≡ lacks_told h rows limit t r word → h ≡ b.geometry → lacks_bytes s.geometry j.text run word ≡ lacks
lacks_there h s j b r buffer run rows limit t word lacks at tail_is rows_are limit_is told same =
    sym (told ∙ lacks_are s.geometry h j run rows limit t r word (same ∙ geometry_is s b at.channel) (tail_is ∙ ap (λ (p : List Item). facts_of (tail p 0)) at.past) at.set rows_are limit_is)

-- 2. the counter

pub lacking_none : (s : Channel) (j : Job) (run : Run) (word : Word) → lacks_bytes s.geometry j.text run word ≡ true → counter_after s j run word ≡ None
lacking_none s j run word lacks = rw lacks refl

pub stopped_some : (s : Channel) (j : Job) (old new : Traced) (r : Registers) (buffer later : List ℕ) (run : Run) (word : Word) (stop : Cycle) (items : List Item) → IsLoneJob s j → IsAt s j old r buffer run → lacks_bytes s.geometry j.text run word ≡ false → channel_of new ≡ channel_of old → HasPerformed old new r buffer later word (Stopped stop) → items ≡ reverse new.past → counter_after s j run word ≡ Some (record { items = items; cycle = Cyc stop })
stopped_some s j old new r buffer later run word stop items lone at whole same did copied =
    rw whole (came_of s j old new r buffer later run word (Stopped stop) lone at same did ∙ ap (λ (xs : List Item). Some (let c : Counter = record { items = xs; cycle = Cyc stop } in c)) (sym copied))

calm_is_none : (o : Option Counter) (next : Option Run) (run : Run) → cond (is_none o) next None ≡ Some run → o ≡ None
calm_is_none None next run h = refl
calm_is_none (Some c) next run h = cc

pub unstopped_none : (s : Channel) (j : Job) (old new : Traced) (r : Registers) (buffer later : List ℕ) (run : Run) (word : Word) (outcome : Outcome) → IsLoneJob s j → IsAt s j old r buffer run → lacks_bytes s.geometry j.text run word ≡ false → channel_of new ≡ channel_of old → HasPerformed old new r buffer later word outcome → ((stop : Cycle) → outcome ≡ Stopped stop → ⊥) → counter_after s j run word ≡ None
unstopped_none s j old new r buffer later run word Done lone at whole same did never =
    let came = came_of s j old new r buffer later run word Done lone at same did in
    rw whole (calm_is_none (counter_at s j run word) (run_word s j word run) came.0 came.1)
unstopped_none s j old new r buffer later run word (Stopped stop) lone at whole same did never = absurd (never stop refl)
unstopped_none s j old new r buffer later run word Missing lone at whole same did never = rw whole (came_of s j old new r buffer later run word Missing lone at same did).0
