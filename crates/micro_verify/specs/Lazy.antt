-- The lazy run of a straight text: its words on a channel of one LUN with a new die, which becomes ready only where a `wait` finds it busy.
use Rattle.std.specs.Prelude.{ℕ, false, ◌&&◌, if◌then◌else◌, List, [], ◌∷◌, Option, Some, None, is_none, take, replicate, reverse}
use Rattle.nand_geometry.specs.declared.parts.Parts.{Parts}
use Rattle.nand_geometry.specs.Limits.{page_len}
use Rattle.onfi_cycle.specs.declared.lun.Lun.{Lun}
use Rattle.onfi_cycle.specs.declared.item.Kind.TheVariants.{Dout}
use Rattle.onfi_cycle.specs.declared.item.Item.{Item}
use Rattle.onfi_cycle.specs.declared.item.Item.TheVariants.{Rdy}
use Rattle.onfi_cycle.specs.Lun.{is_busy}
use Rattle.onfi_cycle.specs.Permitted.{broken}
use Rattle.onfi_cycle.specs.Channel.{Channel, cycle}
use Rattle.micro_word.specs.declared.word.Word.{Word}
use Rattle.micro_word.specs.declared.word.Word.TheVariants.{Get, Wait, ReadStatus}
use Rattle.micro_word.specs.Text.{Microprogram}
use Rattle.micro_program.specs.Program.{Job, Done, Answer, Nothing, Polled, Got}
use Rattle.micro_program.specs.Moves.{Move, Give, Take, moves, and_then, is_wait}
use Rattle.micro_program.specs.Played.{Played, played}
use Rattle.micro_program.specs.Step.{first_byte}
use Rattle.onfi_cycle.specs.declared.item.Failures.{Failures}

-- the only LUN
abbrev pub the_lun : Lun
the_lun = record { ce = 0; lun = 0 }

-- a channel of one target whose die is new; its parameter page has these bytes
abbrev pub lone_channel : Parts → List ℕ → Channel
lone_channel g parameters = record { geometry = g; targets = 1; parameters = parameters; opening = λ l p. replicate (page_len g) 0xff }

-- the text on it, from base 0 and with a buffer of 00
abbrev pub lone_job : Parts → Microprogram → Job
lone_job g text = record { lun = the_lun; base = 0; text = text; geometry = g; buffer = replicate text.buffer 0 }

-- the trace, and the words done
pub record Run : Type 0 where
  pub past : List Item
  pub done : List Done

abbrev pub new_run : Run
new_run = record { past = []; done = [] }

-- a ready that tells of no failure
abbrev pub no_failures : Failures
no_failures = record { last = false; before = false }

-- what the cycles of a word come after: a `wait` that finds the LUN busy comes after its ready
abbrev pub awaited : Parts → List Item → Word → List Item
awaited g past word = if is_wait word && is_busy g past the_lun then Rdy 0 0 no_failures ∷ past else past

abbrev pub answer_of : Word → List ℕ → Answer
answer_of (Get len) bytes = Got bytes
answer_of Wait bytes = Polled (first_byte bytes)
answer_of ReadStatus bytes = Polled (first_byte bytes)
answer_of _ bytes = Nothing

abbrev pub run_with : Word → List Done → Played → Run
run_with word done p = record { past = p.past; done = record { word = word; answer = answer_of word p.bytes } ∷ done }

-- the run with a word more, where its bytes are there and each output has one
abbrev pub run_word : Channel → Job → Word → Run → Option Run
run_word s j word r =
    and_then (moves s.geometry j r.done word) (λ moved. and_then (played s 0 moved (awaited s.geometry r.past word)) (λ p. Some (run_with word r.done p)))

abbrev pub run_words : Channel → Job → List Word → Run → Option Run
run_words s j [] r = Some r
run_words s j (word ∷ words) r = and_then (run_word s j word r) (run_words s j words)

-- the lazy run of the words before a place
abbrev pub lazy : Channel → Microprogram → ℕ → Option Run
lazy s text i = run_words s (lone_job s.geometry text) (take i text.words) new_run

-- ---- the counter

-- a run, and the cycle behind it that isn't permitted, in the order of time
pub record Counter : Type 0 where
  pub items : List Item
  pub cycle : Item

-- the cycle of a move; an output is shown with byte 00
abbrev pub item_of : Move → Item
item_of (Give kind byte) = cycle 0 kind byte
item_of Take = cycle 0 Dout 0

-- the moves up to the first one that isn't permitted
abbrev pub counter_in : Channel → List Move → List Item → Option Counter
counter_in s [] past = None
counter_in s (move ∷ rest) past =
    if is_none (broken s.geometry s.targets past (item_of move)) then and_then (played s 0 (move ∷ []) past) (λ p. counter_in s rest p.past)
    else Some (record { items = reverse past; cycle = item_of move })

-- the counter of a word behind a run
abbrev pub counter_at : Channel → Job → Run → Word → Option Counter
counter_at s j r word = and_then (moves s.geometry j r.done word) (λ moved. counter_in s moved (awaited s.geometry r.past word))
