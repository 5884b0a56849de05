-- Straight texts that are refused: each with its word, its reason, its cause and its counter.
use Rattle.std.specs.Prelude.{◌≡◌, ℕ, List, [], ◌∷◌, Option, Some, true, false}
use Rattle.onfi_cycle.specs.declared.item.Kind.TheVariants.{Cmd, Adr, Dout}
use Rattle.onfi_cycle.specs.declared.forbidden.Forbidden.{Forbidden}
use Rattle.onfi_cycle.specs.declared.forbidden.Forbidden.TheVariants.{LunBusy, DataNotReady}
use Rattle.onfi_cycle.specs.declared.item.Item.{Item}
use Rattle.onfi_cycle.specs.declared.item.Item.TheVariants.{Rdy}
use Rattle.nand_geometry.specs.declared.parts.Parts.{Parts}
use Rattle.nand_geometry.specs.Optional.{no_optional}
use Rattle.onfi_cycle.specs.Channel.{Channel, cycle}
use Rattle.onfi_cycle.specs.Permitted.{broken}
use Rattle.micro_word.specs.declared.word.Word.{Word}
use Rattle.micro_word.specs.declared.word.Word.TheVariants.{End, Command, Address, Get, Column, Wait, ReadStatus}
use Rattle.micro_word.specs.Text.{Microprogram}
use Rattle.micro_claims.specs.declared.refusal.Fault.{Fault}
use Rattle.micro_claims.specs.declared.refusal.Reason.TheVariants.{CycleForbidden, ColumnTooLarge}
use Rattle.micro_program.specs.Unsafe.{one_lun}
use Rattle.micro_claims.specs.SafePrograms.{some_text}
use Rattle.micro_walk.specs.Faults.{fault_of}
use Rattle.micro_program.specs.Moves.{and_then}
use Rattle.micro_verify.specs.Lazy.{lone_channel, lone_job, lazy, Counter, counter_at, no_failures}
use Rattle.micro_verify.specs.Cause.{HasCause}

abbrev pub alone : Channel
alone = lone_channel one_lun []

-- an erase, and another one while the LUN is busy
abbrev pub twice : Microprogram
twice = some_text 0 10 (Command 0x60 ∷ (Address 2 3 ∷ (Command 0xd0 ∷ (Command 0x60 ∷ (Address 2 3 ∷ (Command 0xd0 ∷ (Wait ∷ (End 0 ∷ []))))))))

-- a read, a part of its data, and a status, which loses the column
abbrev pub lost : Microprogram
lost = some_text 2 20 (Command 0x00 ∷ (Address 0 5 ∷ (Command 0x30 ∷ (Wait ∷ (Command 0x00 ∷ (Get 1 ∷ (ReadStatus ∷ (Command 0x00 ∷ (Get 1 ∷ (End 0 ∷ []))))))))))

abbrev pub five : List Item
five = cycle 0 Cmd 0x60 ∷ (cycle 0 Adr 0x00 ∷ (cycle 0 Adr 0x00 ∷ (cycle 0 Adr 0x00 ∷ (cycle 0 Cmd 0xd0 ∷ []))))

abbrev pub IsRefused : Microprogram → Fault → Type 0
IsRefused text fault = fault_of one_lun text ≡ Some fault

-- the counter of a text at a word
abbrev pub counter_of : Microprogram → ℕ → Word → Option Counter
counter_of text at word = and_then (lazy alone text at) (λ r. counter_at alone (lone_job one_lun text) r word)

-- the rule that its cycle breaks
abbrev pub rule_at : Microprogram → ℕ → Item → Option Forbidden
rule_at text at i = and_then (lazy alone text at) (λ r. broken one_lun 1 r.past i)

-- one LUN with two planes
abbrev pub two_planes : Parts
two_planes = record { page_bytes = 512; spare_bytes = 16; pages = 4; blocks = 8; luns = 1; plane_bits = 1; enhanced = false; multi_plane = true; cache = false; optional = no_optional }

-- an erase is queued, and another one of its plane named
abbrev pub queued : Microprogram
queued = some_text 0 20 (Command 0x60 ∷ (Address 2 3 ∷ (Command 0xd1 ∷ (Wait ∷ (Command 0x60 ∷ (Address 2 3 ∷ (Command 0xd0 ∷ (End 0 ∷ []))))))))

-- the trace up to the last row cycle, which the queue doesn't take
abbrev pub queued_items : List Item
queued_items = cycle 0 Cmd 0x60 ∷ (cycle 0 Adr 0x00 ∷ (cycle 0 Adr 0x00 ∷ (cycle 0 Adr 0x00 ∷ (cycle 0 Cmd 0xd1 ∷ (Rdy 0 0 no_failures ∷ (cycle 0 Cmd 0x70 ∷ (cycle 0 Dout 0xe0 ∷ (cycle 0 Cmd 0x60 ∷ (cycle 0 Adr 0x00 ∷ (cycle 0 Adr 0x00 ∷ []))))))))))

-- a column past the page
abbrev pub wide : Microprogram
wide = some_text 0 20 (Column 528 ∷ (Command 0x00 ∷ (Address 0 5 ∷ (Command 0x30 ∷ (Wait ∷ (End 0 ∷ []))))))

abbrev pub counter_on : Parts → Microprogram → ℕ → Word → Option Counter
counter_on g text at word = and_then (lazy (lone_channel g []) text at) (λ r. counter_at (lone_channel g []) (lone_job g text) r word)

pub record RefusalsAreShown : Type 0 where
  pub twice_refused : IsRefused twice (record { word = 3; reason = CycleForbidden })
  pub twice_counter : counter_of twice 3 (Command 0x60) ≡ Some (record { items = five; cycle = cycle 0 Cmd 0x60 })
  pub twice_breaks : rule_at twice 3 (cycle 0 Cmd 0x60) ≡ Some LunBusy
  pub twice_cause : HasCause alone twice (record { word = 3; reason = CycleForbidden })
  pub lost_refused : IsRefused lost (record { word = 8; reason = CycleForbidden })
  pub lost_breaks : rule_at lost 8 (cycle 0 Dout 0x00) ≡ Some DataNotReady
  pub queued_refused : fault_of two_planes queued ≡ Some (record { word = 5; reason = CycleForbidden })
  pub queued_counter : counter_on two_planes queued 5 (Address 2 3) ≡ Some (record { items = queued_items; cycle = cycle 0 Adr 0x00 })
  pub wide_refused : IsRefused wide (record { word = 2; reason = ColumnTooLarge })
  pub wide_counter : counter_of wide 2 (Address 0 5) ≡ Some (record { items = cycle 0 Cmd 0x00 ∷ (cycle 0 Adr 0x10 ∷ []); cycle = cycle 0 Adr 0x02 })
