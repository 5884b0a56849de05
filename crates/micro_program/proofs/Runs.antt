-- Worked runs, computed by the definitions. Traces are written in the order of time.
use Rattle.std.specs.Prelude.{◌≡◌, ℕ, Bool, true, false, List, [], ◌∷◌, ◌++◌, reverse, replicate, refl, Option, Some, None}
use Rattle.nand_geometry.specs.declared.parts.Parts.{Parts}
use Rattle.nand_geometry.specs.Optional.{no_optional}
use Rattle.nand_geometry.specs.Limits.{width}
use Rattle.onfi_cycle.specs.declared.item.Kind.TheVariants.{Cmd, Adr, Dout}
use Rattle.onfi_cycle.specs.declared.item.Item.{Item}
use Rattle.onfi_cycle.specs.declared.item.Failures.{Failures}
use Rattle.onfi_cycle.specs.declared.item.Item.TheVariants.{Cyc, Rdy}
use Rattle.onfi_cycle.specs.Command.{command}
use Rattle.onfi_cycle.specs.Lun.{effect_among}
use Rattle.onfi_cycle.specs.Channel.{Channel}
use Rattle.micro_word.specs.declared.word.Word.{Word}
use Rattle.micro_word.specs.declared.word.Word.TheVariants.{Row, Plane, Column, BranchOnStatus, End, Command, Address, Get, Put, Seek, Wait, Yield, Loop, Next, Jump}
use Rattle.micro_word.specs.Text.{Microprogram}
use Rattle.micro_program.specs.Lines.{Line, unrolled}
use Rattle.micro_program.specs.Program.{Job, Polled, buffer_now, cost_now}
use Rattle.micro_program.specs.Moves.{Move, Give, Take, and_then}
use Rattle.micro_program.specs.Step.{Outcome, Ended, HandedOver, NotReady, Went, Stride, next_step}
use Rattle.micro_program.specs.Unsafe.{one_lun}
use Rattle.micro_program.specs.Actions.{Action, acts}

-- a target with two LUNs, two planes and Read Status Enhanced
abbrev two_luns : Parts
two_luns = record { page_bytes = 512; spare_bytes = 16; pages = 4; blocks = 8; luns = 2; plane_bits = 1; enhanced = true; multi_plane = true; cache = false; optional = no_optional }

-- one target, whose pages are erased
abbrev pub on : Parts → Channel
on g = record { geometry = g; targets = 1; parameters = replicate 768 0; opening = λ l p. replicate 528 0xff }

abbrev c : ℕ → Item
c byte = Cyc (record { ce = 0; kind = Cmd; byte = byte })

abbrev a : ℕ → Item
a byte = Cyc (record { ce = 0; kind = Adr; byte = byte })

abbrev o : ℕ → Item
o byte = Cyc (record { ce = 0; kind = Dout; byte = byte })

abbrev pub job : Parts → ℕ → ℕ → Microprogram → List ℕ → Job
job g lun base text buffer = record { lun = record { ce = 0; lun = lun }; base = base; text = text; geometry = g; buffer = buffer }

-- what a ready tells
abbrev told : Bool → Failures
told fail = record { last = fail; before = false }

-- what happens in a run: the program makes a step, or a LUN becomes ready
data Happening : Type 0 where
  S : Happening
  R : (fail : Bool) → Happening

abbrev loaded : Job → Stride
loaded j = record { past = []; ahead = unrolled j.text.words; done = []; code = None; outcome = Went }

-- how steps go, in the order of time, and where the last one leads
record Run : Type 0 where
  went : List Outcome
  last : Stride

abbrev with_step : Outcome → Run → Option Run
with_step outcome r = Some (record { went = outcome ∷ r.went; last = r.last })

abbrev run : Channel → Job → List Happening → Stride → Option Run
run s j [] r = Some (record { went = []; last = r })
run s j (S ∷ rest) r = and_then (next_step s j r.past r.ahead r.done) (λ q. and_then (run s j rest q) (with_step q.outcome))
run s j (R fail ∷ rest) r = run s j rest (record r { past = Rdy 0 j.lun.lun (told fail) ∷ r.past })

-- what is looked at: how the steps went, the trace, the code, the buffer and the cost
record Result : Type 0 where
  went : List Outcome
  trace : List Item
  code : Option ℕ
  buffer : List ℕ
  cost : ℕ

abbrev result : Parts → Job → List Happening → Option Result
result g j happenings =
    and_then (run (on g) j happenings (loaded j)) (λ r. Some (record { went = r.went; trace = reverse r.last.past; code = r.last.code; buffer = buffer_now j.buffer r.last.done; cost = cost_now g r.last.done }))

abbrev pub line : ℕ → Word → Line
line at word = record { at = at; word = word }

-- cmd 60, addr 2 3, cmd d0, wait, end 0
abbrev erase : Microprogram
erase = record { rows = 1; buffer = 0; budget = 5; words = Command 0x60 ∷ (Address 2 3 ∷ (Command 0xd0 ∷ (Wait ∷ (End 0 ∷ [])))) }

erase_one_block : result one_lun (job one_lun 0 4 erase []) (S ∷ (S ∷ (S ∷ (S ∷ (R false ∷ (S ∷ (S ∷ []))))))) ≡ Some (record { went = Went ∷ (Went ∷ (Went ∷ (NotReady ∷ (Went ∷ (Ended ∷ []))))); trace = c 0x60 ∷ (a 4 ∷ (a 0 ∷ (a 0 ∷ (c 0xd0 ∷ (c 0x70 ∷ (o 0x80 ∷ (Rdy 0 0 (told false) ∷ (c 0x70 ∷ (o 0xe0 ∷ []))))))))); code = Some 0; buffer = []; cost = 5 })
unfolding unrolled command width effect_among
erase_one_block = refl

erase_on_lun_one : result two_luns (job two_luns 1 0 erase []) (S ∷ (S ∷ (S ∷ (R false ∷ (S ∷ (S ∷ [])))))) ≡ Some (record { went = Went ∷ (Went ∷ (Went ∷ (Went ∷ (Ended ∷ [])))); trace = c 0x60 ∷ (a 0x20 ∷ (a 0 ∷ (a 0 ∷ (c 0xd0 ∷ (Rdy 0 1 (told false) ∷ (c 0x78 ∷ (a 0x20 ∷ (a 0 ∷ (a 0 ∷ (o 0xe0 ∷ [])))))))))); code = Some 0; buffer = []; cost = 5 })
unfolding unrolled command width effect_among
erase_on_lun_one = refl

-- the actions of the erase: with no answer up to the wait, with one to the end
abbrev gives_row : Option (List Move)
gives_row = Some (Give Adr 4 ∷ (Give Adr 0 ∷ (Give Adr 0 ∷ [])))

abbrev polls : Option (List Move)
polls = Some (Give Cmd 0x70 ∷ (Take ∷ []))

abbrev does : Word → Option (List Move) → Action
does word cycles = record { word = word; cycles = cycles; place = 0; bytes = 0 }

erase_acts : acts one_lun (job one_lun 0 4 erase []) (Polled 0xe0 ∷ []) ≡ does (Command 0x60) (Some (Give Cmd 0x60 ∷ [])) ∷ (does (Address 2 3) gives_row ∷ (does (Command 0xd0) (Some (Give Cmd 0xd0 ∷ [])) ∷ (does Wait polls ∷ (does (End 0) (Some []) ∷ []))))
unfolding unrolled width
erase_acts = refl

erase_acts_so_far : acts one_lun (job one_lun 0 4 erase []) [] ≡ does (Command 0x60) (Some (Give Cmd 0x60 ∷ [])) ∷ (does (Address 2 3) gives_row ∷ (does (Command 0xd0) (Some (Give Cmd 0xd0 ∷ [])) ∷ (does Wait polls ∷ [])))
unfolding unrolled width
erase_acts_so_far = refl

-- a failed erase branches, a good one doesn't
abbrev erase_or_fail : Microprogram
erase_or_fail = record { rows = 1; buffer = 0; budget = 5; words = Command 0x60 ∷ (Address 2 3 ∷ (Command 0xd0 ∷ (Wait ∷ (BranchOnStatus 1 6 ∷ (End 0 ∷ (End 1 ∷ [])))))) }

abbrev code_of : Option Result → Option ℕ
code_of None = None
code_of (Some r) = r.code

failed_erase_branches : code_of (result one_lun (job one_lun 0 0 erase_or_fail []) (S ∷ (S ∷ (S ∷ (R true ∷ (S ∷ (S ∷ (S ∷ [])))))))) ≡ Some 1
unfolding unrolled command width effect_among
failed_erase_branches = refl

good_erase_goes_on : code_of (result one_lun (job one_lun 0 0 erase_or_fail []) (S ∷ (S ∷ (S ∷ (R false ∷ (S ∷ (S ∷ (S ∷ [])))))))) ≡ Some 0
unfolding unrolled command width effect_among
good_erase_goes_on = refl

-- the words of the actions
abbrev words_of : List Action → List Word
words_of [] = []
words_of (x ∷ xs) = x.word ∷ words_of xs

failed_erase_acts : words_of (acts one_lun (job one_lun 0 0 erase_or_fail []) (Polled 0xe1 ∷ [])) ≡ Command 0x60 ∷ (Address 2 3 ∷ (Command 0xd0 ∷ (Wait ∷ (BranchOnStatus 1 6 ∷ (End 1 ∷ [])))))
unfolding unrolled
failed_erase_acts = refl

-- a jump leaves out what stands before its target
abbrev jumps : Microprogram
jumps = record { rows = 1; buffer = 0; budget = 0; words = Jump 2 ∷ (End 1 ∷ (Yield ∷ (End 2 ∷ []))) }

jump_leaves_out : result one_lun (job one_lun 0 0 jumps []) (S ∷ (S ∷ (S ∷ []))) ≡ Some (record { went = Went ∷ (HandedOver ∷ (Ended ∷ [])); trace = []; code = Some 2; buffer = []; cost = 0 })
unfolding unrolled
jump_leaves_out = refl

jump_acts : words_of (acts one_lun (job one_lun 0 0 jumps []) []) ≡ Jump 2 ∷ (Yield ∷ (End 2 ∷ []))
unfolding unrolled
jump_acts = refl

-- a loop of two turns: its lines as often, `next` being the last of each turn
loop_written_out : unrolled (Loop 2 ∷ (Get 1 ∷ (Next ∷ (End 0 ∷ [])))) ≡ line 0 (Loop 2) ∷ (line 1 (Get 1) ∷ (line 2 Next ∷ (line 1 (Get 1) ∷ (line 2 Next ∷ (line 3 (End 0) ∷ [])))))
unfolding unrolled
loop_written_out = refl

-- a loop of two turns in another
nested_loop_written_out : unrolled (Loop 2 ∷ (Loop 2 ∷ (Get 1 ∷ (Next ∷ (Next ∷ (End 0 ∷ [])))))) ≡ line 0 (Loop 2) ∷ (line 1 (Loop 2) ∷ (line 2 (Get 1) ∷ (line 3 Next ∷ (line 2 (Get 1) ∷ (line 3 Next ∷ (line 4 Next ∷ (line 1 (Loop 2) ∷ (line 2 (Get 1) ∷ (line 3 Next ∷ (line 2 (Get 1) ∷ (line 3 Next ∷ (line 4 Next ∷ (line 5 (End 0) ∷ [])))))))))))))
unfolding unrolled
nested_loop_written_out = refl

-- a branch in a loop to the `next` of its turn leaves the other turns
jump_in_a_loop : words_of (acts one_lun (job one_lun 0 0 (record { rows = 1; buffer = 0; budget = 0; words = Loop 2 ∷ (Jump 3 ∷ (Yield ∷ (Next ∷ (End 0 ∷ [])))) }) []) []) ≡ Loop 2 ∷ (Jump 3 ∷ (Next ∷ (Jump 3 ∷ (Next ∷ (End 0 ∷ [])))))
unfolding unrolled
jump_in_a_loop = refl

-- the identifier is read in a nested loop
abbrev read_identifier : Microprogram
read_identifier = record { rows = 1; buffer = 4; budget = 6; words = Column 32 ∷ (Command 0x90 ∷ (Address 0 1 ∷ (Loop 2 ∷ (Loop 2 ∷ (Get 1 ∷ (Next ∷ (Next ∷ (End 3 ∷ [])))))))) }

identifier_is_read : result one_lun (job one_lun 0 0 read_identifier (0 ∷ (0 ∷ (0 ∷ (0 ∷ []))))) (S ∷ (S ∷ (S ∷ (S ∷ (S ∷ (S ∷ (S ∷ (S ∷ (S ∷ (S ∷ (S ∷ (S ∷ (S ∷ (S ∷ (S ∷ (S ∷ (S ∷ []))))))))))))))))) ≡ Some (record { went = replicate 16 Went ++ (Ended ∷ []); trace = c 0x90 ∷ (a 0x20 ∷ (o 0x4f ∷ (o 0x4e ∷ (o 0x46 ∷ (o 0x49 ∷ []))))); code = Some 3; buffer = 0x4f ∷ (0x4e ∷ (0x46 ∷ (0x49 ∷ []))); cost = 6 })
unfolding unrolled command width effect_among
identifier_is_read = refl

-- a page is programmed and read again
abbrev program_then_read : Microprogram
program_then_read = record { rows = 1; buffer = 4; budget = 19; words = Row 0 ∷ (Plane 0 ∷ (Column 0 ∷ (Seek 0 ∷ (Command 0x80 ∷ (Address 0 5 ∷ (Put 2 ∷ (Command 0x10 ∷ (Wait ∷ (BranchOnStatus 1 21 ∷ (Row 0 ∷ (Plane 0 ∷ (Column 0 ∷ (Seek 2 ∷ (Command 0x00 ∷ (Address 0 5 ∷ (Command 0x30 ∷ (Wait ∷ (Command 0x00 ∷ (Get 2 ∷ (End 0 ∷ (End 1 ∷ []))))))))))))))))))))) }

abbrev steps : ℕ → List Happening → List Happening
steps n rest = replicate n S ++ rest

abbrev buffer_of : Option Result → List ℕ
buffer_of None = []
buffer_of (Some r) = r.buffer

page_is_read_again : buffer_of (result one_lun (job one_lun 0 0 program_then_read (0xa5 ∷ (0x3c ∷ (0 ∷ (0 ∷ []))))) (steps 9 (R false ∷ steps 9 (R false ∷ steps 4 [])))) ≡ 0xa5 ∷ (0x3c ∷ (0xa5 ∷ (0x3c ∷ [])))
unfolding unrolled command width effect_among
page_is_read_again = refl
