-- The dump of a legal trace is captured as this trace, without the failures of the page before: these have no line.
use Rattle.std.specs.Prelude.{◌≡◌, ℕ, ◌+◌, ◌*◌, ◌^◌, ◌<◌, ◌≤◌, nat_lt, ◌&&◌, Bool, true, false, not, List, [], ◌∷◌, length, map, reverse, None, Ok}
use Rattle.onfi_cycle.specs.declared.item.Item.{Item}
use Rattle.onfi_cycle.specs.declared.item.Item.TheVariants.{Cyc, Rdy, Ard}
use Rattle.onfi_cycle.specs.Permitted.{is_legal}
use Rattle.trace_wave.specs.Wave.{dump}
use Rattle.bus_capture.specs.declared.inferring.Stamped.{Stamped}
use Rattle.bus_capture.specs.declared.reading.Setup.{Setup}
use Rattle.bus_capture.specs.declared.reading.CaptureForm.TheVariants.{Dump}
use Rattle.bus_capture.specs.Inferring.{captured}

-- what a cycle carries is a byte, as a `u8` always is
abbrev pub carries_byte : Item → Bool
carries_byte (Cyc c) = nat_lt c.byte 256
carries_byte (Rdy _ _ _) = true
carries_byte (Ard _ _ _) = true

abbrev pub carry_bytes : List Item → Bool
carry_bytes [] = true
carry_bytes (i ∷ items) = carries_byte i && carry_bytes items

-- what the lines of a dump tell of an item: all but the failure of the page before, which its readies may tell
abbrev pub told_of : Item → Item
told_of (Cyc c) = Cyc c
told_of (Rdy ce lun fail) = Rdy ce lun (record { last = fail.last; before = false })
told_of (Ard ce lun fail) = Ard ce lun fail

-- items one after the other, from number n on: each has ten units of time, and is seen at the sixth
abbrev pub stamped_from : (n : ℕ) → List Item → List Stamped
stamped_from n [] = []
stamped_from n (i ∷ items) = record { time = 10 * n + 6; item = i } ∷ stamped_from (n + 1) items

-- a capture of a dump, of 1 to 4 targets of 1 to 4 LUNs, whose signals go by their names, in which no change is too early and outputs are taken as RE# rises
pub record IsPlain (setup : Setup) : Type 0 where
  pub form : setup.form ≡ Dump
  pub names : setup.mappings.now ≡ []
  pub glitch : setup.glitch ≡ 0
  pub late : setup.late ≡ None
  pub some : 1 ≤ setup.targets
  pub few : setup.targets ≤ 4
  pub luns : 1 ≤ setup.geometry.luns
  pub few_luns : setup.geometry.luns ≤ 4

-- item after item, each at its time, without what no line tells
abbrev pub DrawnIsCaptured : Type 0
DrawnIsCaptured =
    (setup : Setup) (items : List Item) → IsPlain setup → is_legal setup.geometry setup.targets (reverse items) ≡ true → carry_bytes items ≡ true → 10 * length items < 10 ^ 18 →
    captured setup (dump setup.geometry setup.targets items) ≡ Ok (stamped_from 0 (map told_of items))

-- it tells no failure of the page before
abbrev pub tells_all : Item → Bool
tells_all (Cyc c) = true
tells_all (Rdy ce lun fail) = not fail.before
tells_all (Ard ce lun fail) = true

abbrev pub tell_all : List Item → Bool
tell_all [] = true
tell_all (i ∷ items) = tells_all i && tell_all items

-- then the trace comes back as it is
abbrev pub DrawnComesBack : Type 0
DrawnComesBack =
    (setup : Setup) (items : List Item) → IsPlain setup → is_legal setup.geometry setup.targets (reverse items) ≡ true → carry_bytes items ≡ true → 10 * length items < 10 ^ 18 → tell_all items ≡ true →
    captured setup (dump setup.geometry setup.targets items) ≡ Ok (stamped_from 0 items)
