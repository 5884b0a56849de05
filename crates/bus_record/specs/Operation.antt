-- A whole operation on a target: its parts one after another, as far as none of their cycles breaks a rule.
use Rattle.std.specs.Prelude.{◌≡◌, ◌<◌, ℕ, ◌+◌, ◌==◌, nat_le, slice_get, if◌then◌else◌, List, [], ◌∷◌, Option, Some, None, take, length, false}
use Rattle.onfi_cycle.specs.declared.forbidden.Forbidden.{Forbidden}
use Rattle.onfi_cycle.specs.declared.item.Item.TheVariants.{Rdy}
use Rattle.onfi_cycle.specs.declared.item.Kind.{Kind}
use Rattle.onfi_cycle.specs.declared.item.Kind.TheVariants.{Cmd, Adr}
use Rattle.onfi_cycle.specs.Channel.{cycle}
use Rattle.onfi_cycle.specs.Inputs.{judged_inputs, after_inputs}
use Rattle.onfi_cycle.specs.Outputs.{judged_outputs, after_outputs}
use Rattle.onfi_cycle.specs.Runs.{first_rule}
use Rattle.onfi_cycle.specs.State.{BusView, bus_after, judged}
use Rattle.bus_record.specs.Bus.{bus_pushed, rule_code}
use Rattle.bus_record.specs.Rule.{by_option}
use Rattle.bus_record.specs.declared.operation.OnfiseqPart.{OnfiseqPart}

-- ---- a part

-- cycles of a kind with these bytes: the rule that the first forbidden one breaks first, and what they leave
abbrev pub judged_cycles : Kind → ℕ → List ℕ → BusView → Option Forbidden
judged_cycles kind ce [] s = None
judged_cycles kind ce (byte ∷ bytes) s = first_rule (judged s (cycle ce kind byte)) (judged_cycles kind ce bytes (bus_after (cycle ce kind byte) s))

abbrev pub after_cycles : Kind → ℕ → List ℕ → BusView → BusView
after_cycles kind ce [] s = s
after_cycles kind ce (byte ∷ bytes) s = after_cycles kind ce bytes (bus_after (cycle ce kind byte) s)

-- R/B# of the target has risen: each of its four LUNs is ready that is there and busy
abbrev pub readied : ℕ → ℕ → BusView → BusView
readied ce lun s = bus_pushed s (Some (Rdy ce lun (record { last = false; before = false })))

abbrev pub after_wait : ℕ → BusView → BusView
after_wait ce s = readied ce 3 (readied ce 2 (readied ce 1 (readied ce 0 s)))

-- 0 where no rule is broken, else the code of the first
abbrev pub code_or_none : Option Forbidden → ℕ
code_or_none rule = by_option rule 0 rule_code

-- commands or addresses, whose bytes are the first so many of seven
abbrev pub given_code : Kind → ℕ → OnfiseqPart → BusView → ℕ
given_code kind ce p s = if nat_le p.count 7 then code_or_none (judged_cycles kind ce (take p.count p.bytes) s) else 0x4900

-- what is answered to a part: 0, or the code of the rule that the first forbidden one of its cycles breaks first, or I where its numbers are no part. Its kind is C, A, I,
-- O, or W
abbrev pub part_code : ℕ → OnfiseqPart → BusView → ℕ
part_code ce p s =
    if p.kind == 67 then given_code Cmd ce p s
    else (if p.kind == 65 then given_code Adr ce p s
    else (if p.kind == 73 then code_or_none (judged_inputs ce p.count s)
    else (if p.kind == 79 then code_or_none (judged_outputs ce p.count s)
    else (if p.kind == 87 then 0 else 0x4900))))

-- what it leaves
abbrev pub part_after : ℕ → OnfiseqPart → BusView → BusView
part_after ce p s =
    if p.kind == 67 then after_cycles Cmd ce (take p.count p.bytes) s
    else (if p.kind == 65 then after_cycles Adr ce (take p.count p.bytes) s
    else (if p.kind == 73 then after_inputs ce p.count s
    else (if p.kind == 79 then after_outputs ce p.count s
    else (if p.kind == 87 then after_wait ce s else s))))

-- ---- parts one after another

-- 0, or what is answered to the first that isn't answered with 0
abbrev pub parts_code : ℕ → List OnfiseqPart → BusView → ℕ
parts_code ce [] s = 0
parts_code ce (p ∷ ps) s = if part_code ce p s == 0 then parts_code ce ps (part_after ce p s) else part_code ce p s

-- how many are in front of that
abbrev pub parts_gone : ℕ → List OnfiseqPart → BusView → ℕ
parts_gone ce [] s = 0
parts_gone ce (p ∷ ps) s = if part_code ce p s == 0 then parts_gone ce ps (part_after ce p s) + 1 else 0

-- what they leave, where each goes
abbrev pub parts_after : ℕ → List OnfiseqPart → BusView → BusView
parts_after ce [] s = s
parts_after ce (p ∷ ps) s = parts_after ce ps (part_after ce p s)

-- ---- which cycle of a part is refused

abbrev pub with_count : OnfiseqPart → ℕ → OnfiseqPart
with_count p n = record { count = n; kind = p.kind; bytes = p.bytes }

-- so many cycles of the part go, and one more doesn't
pub record IsCycle (ce : ℕ) (p : OnfiseqPart) (s : BusView) (n : ℕ) : Type 0 where
  pub before : part_code ce (with_count p n) s ≡ 0
  pub refused : part_code ce (with_count p (n + 1)) s ≡ 0 → ⊥
  pub few : n < p.count

-- the same of the part in this place, after those in front of it, where it is one
pub record IsSpot (ce : ℕ) (ps : List OnfiseqPart) (s : BusView) (gone cycle : ℕ) : Type 0 where
  pub there : (p : OnfiseqPart) → slice_get ps gone ≡ Some p → part_code ce (with_count p 0) (parts_after ce (take gone ps) s) ≡ 0 → IsCycle ce p (parts_after ce (take gone ps) s) cycle

-- ---- an operation on a channel: F1 where no such target is there

abbrev pub op_code : ℕ → List OnfiseqPart → BusView → ℕ
op_code ce ps s = if nat_le (length s.targets) ce then 0x4601 else parts_code ce ps s

abbrev pub op_gone : ℕ → List OnfiseqPart → BusView → ℕ
op_gone ce ps s = if nat_le (length s.targets) ce then 0 else parts_gone ce ps s
