-- The state of a channel in the caller's memory.
use Rattle.std.specs.Prelude.{◌+◌, ◌==◌, ◌&&◌, ◌||◌, Bool, true, ◌≡◌, ℕ, ◌≤◌, ◌<◌, nat_le, nat_lt, if◌then◌else◌, List, ◌∷◌, Option, Some, None, map, take, length, slice_get, get_or, IfSome}
use Rattle.std.specs.List.{All, list_all}
use Rattle.nand_geometry.specs.declared.parts.Parts.{Parts}
use Rattle.nand_geometry.specs.declared.page_fault.PageFault.{PageFault}
use Rattle.nand_geometry.specs.Codes.{page_fault_number}
use Rattle.nand_geometry.specs.Limits.{fault_of}
use Rattle.onfi_cycle.specs.declared.item.Item.{Item}
use Rattle.onfi_cycle.specs.declared.forbidden.Forbidden.{Forbidden}
use Rattle.onfi_cycle.specs.Bounds.{BusFits, TargetFits}
use Rattle.onfi_cycle.specs.Permitted.{judge, broken}
use Rattle.onfi_cycle.specs.State.{TargetView, BusView, Follows, judged, bus_after, target_after}
use Rattle.target_record.specs.Geometry.{parts_of}
use Rattle.bus_record.specs.Rule.{by_option}
use Rattle.onfi_cycle.specs.Codes.{rule_number}
use Rattle.target_record.specs.Record.{target_of, IsTarget}
use Rattle.target_record.specs.Whole.{IsWhole, are_numbers, is_whole}
use Rattle.target_record.specs.declared.geometry.OnfiseqGeometry.{OnfiseqGeometry}
use Rattle.bus_record.specs.Kept.{Kept}
use Rattle.target_record.specs.declared.record.OnfiseqTarget.{OnfiseqTarget}

-- the state that the numbers stand for: of the targets the first ones count
abbrev pub bus_view : Kept → BusView
bus_view k = record { geometry = parts_of k.geometry; targets = map target_of (take k.count k.targets) }

-- what stands first in it is what a call left
abbrev pub is_bus : Kept → Bool
is_bus k = k.magic == 0x5355424f

-- what stands in the caller's memory: no channel, or one whose facts fit
pub record IsSound (k : Kept) : Type 0 where
  pub few : k.count ≤ 4
  pub room : length k.targets ≡ 4
  pub records : All IsTarget k.targets
  pub fits : 1 ≤ k.count → BusFits (bus_view k)

-- the places for targets, of which the channel has the first ones
pub record HasPlaces (k : Kept) : Type 0 where
  pub few : k.count ≤ 4
  pub room : length k.targets ≡ 4

-- the record of this target, if the channel has it, is one that a target can have
pub record FitsAt (k : Kept) (ce : ℕ) : Type 0 where
  pub places : HasPlaces k
  pub whole : ce < k.count → (d : OnfiseqTarget) → IsWhole k.geometry (get_or k.targets ce d)

-- the same as a test
abbrev pub is_whole_there : OnfiseqGeometry → Option OnfiseqTarget → Bool
is_whole_there g None = true
is_whole_there g (Some t) = is_whole g t

abbrev pub fits_at : ℕ → Kept → Bool
fits_at ce k = nat_le k.count 4 && (nat_le k.count ce || is_whole_there k.geometry (slice_get k.targets ce))

-- the record is one that a call left: what stands first in it, and the record of this target
abbrev pub is_bus_at : ℕ → Kept → Bool
is_bus_at ce k = is_bus k && fits_at ce k

-- that of each target of the channel, and the numbers of the others
abbrev pub are_sound : Kept → Bool
are_sound k = nat_le k.count 4 && (list_all are_numbers k.targets && list_all (is_whole k.geometry) (take k.count k.targets))

abbrev pub is_sound_bus : Kept → Bool
is_sound_bus k = is_bus k && are_sound k

-- the law: a channel that permitted items have led there is taken by both tests
pub record IsTaken (k : Kept) : Type 0 where
  pub there : (ce : ℕ) → fits_at ce k ≡ true
  pub whole : are_sound k ≡ true

abbrev pub SoundAreTaken : Type 0
SoundAreTaken = (k : Kept) → IsSound k → IsTaken k

-- a channel can begin: the geometry has no fault, and the targets are 1 to 4
abbrev pub CanBegin : Parts → ℕ → Type 0
CanBegin g n = (fault_of g ≡ None) × (1 ≤ n) × (n ≤ 4)

-- the code of a rule: the letter F, and its number
abbrev pub rule_code : Forbidden → ℕ
rule_code rule = 0x4600 + rule_number rule

-- the letter P and the number of a fault of the geometry, 0 where it has none
abbrev pub fault_code : Option PageFault → ℕ
fault_code None = 0
fault_code (Some fault) = 0x5000 + page_fault_number fault

-- what is answered where a channel is to begin: 0, or T where the targets aren't 1 to 4, or P and the fault of the geometry
abbrev pub begin_code : Parts → (targets : ℕ) → ℕ
begin_code g targets = if nat_lt targets 1 || nat_lt 4 targets then 0x5400 else fault_code (fault_of g)

-- what is answered to an item on its target: 0, or the code of the first rule that it breaks
abbrev pub answered_there : Parts → ℕ → TargetView → Item → ℕ
answered_there g n s i = by_option (judge g n s.tail s.luns i) 0 rule_code

-- the target after it: an item that breaks a rule changes nothing
abbrev pub target_pushed : Parts → ℕ → TargetView → Item → TargetView
target_pushed g n s i = by_option (judge g n s.tail s.luns i) (target_after g i s) (λ rule. s)

-- a target's record after an item, and what was answered to it: a refused item leaves each number as it was
pub record IsStep (g : Parts) (n : ℕ) (old new : OnfiseqTarget) (i : Item) (answer : Option Forbidden) : Type 0 where
  pub rule : answer ≡ judge g n (target_of old).tail (target_of old).luns i
  pub state : target_of new ≡ target_pushed g n (target_of old) i
  pub refused : IfSome answer (λ rule. new ≡ old)
  pub numbers : IsTarget new
  pub fits : TargetFits g (target_of new)

-- the same of a channel: 0, or the code of the first rule that it breaks; the letter I for what is none
abbrev pub pushed : BusView → Option Item → ℕ
pushed bus None = 0x4900
pushed bus (Some i) = by_option (judged bus i) 0 rule_code

-- the state after it: an item that breaks a rule changes nothing
abbrev pub bus_pushed : BusView → Option Item → BusView
bus_pushed bus None = bus
bus_pushed bus (Some i) = by_option (judged bus i) (bus_after i bus) (λ rule. bus)

-- an item is answered by the rules after the past, and a state that follows a past follows it with each item that is answered with 0
pub record GoesOn (g : Parts) (n : ℕ) (past : List Item) (i : Item) (answer : ℕ) (later : BusView) : Type 0 where
  pub answered : answer ≡ by_option (broken g n past i) 0 rule_code
  pub follows : answer ≡ 0 → Follows g n later (i ∷ past)
