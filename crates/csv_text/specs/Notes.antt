-- What comments above the row of names tell, as sigrok writes them.
use Rattle.std.specs.Prelude.{ℕ, ◌==◌, Bool, if◌then◌else◌, List, [], codes, Option, Some, None}
use Rattle.std.specs.List.{starts_with, after_first}
use Rattle.csv_text.specs.Fields.{is_either, trim_front, trim}
use Rattle.csv_text.specs.Times.{rate_of}

-- a colon (58), or the sign of equality (61)
abbrev pub is_colon : ℕ → Bool
is_colon b = is_either 58 61 b

abbrev pub has_front : List ℕ → List ℕ → Bool
has_front text front = starts_with (λ a b. a == b) text front

-- the names of the signals, with commas between them, and how many samples there are in a second; nothing and 0 where no comment says so
pub record Heading : Type 0 where
  pub channels : List ℕ
  pub rate : ℕ

abbrev pub no_heading : Heading
no_heading = record { channels = []; rate = 0 }

-- what stands behind the first of them
abbrev pub told_by : List ℕ → List ℕ
told_by text = trim (after_first is_colon text)

abbrev pub with_rate : Heading → Option ℕ → Heading
with_rate h None = h
with_rate h (Some rate) = record h { rate = rate }

-- `; Channels (14/14): CE_n, ..`, `; Samplerate: 24 MHz` or `META samplerate: 24000000`
abbrev pub noted_by : Heading → List ℕ → Heading
noted_by h text =
    if has_front text (codes "; Channels") then record h { channels = told_by text } else (
    if has_front text (codes "; Samplerate") then with_rate h (rate_of (told_by text)) else (
    if has_front text (codes "META samplerate") then with_rate h (rate_of (told_by text)) else h))

abbrev pub noted : Heading → List ℕ → Heading
noted h text = noted_by h (trim_front text)
