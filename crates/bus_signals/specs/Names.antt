-- What a signal is, by its name.
use Rattle.std.specs.Prelude.{ℕ, ◌+◌, ◌-◌, ◌*◌, ◌/◌, ◌%◌, ◌==◌, ◌||◌, ◌&&◌, Bool, true, false, nat_le, nat_lt, if◌then◌else◌, List, [], ◌∷◌, codes, Option, Some, None}
use Rattle.std.specs.Option.{unwrap_or}
use Rattle.vcd_text.specs.Tokens.{is_digit}
use Rattle.bus_signals.specs.declared.names.Family.{Family}
use Rattle.bus_signals.specs.declared.names.Family.TheVariants.{Enable, Cle, Ale, We, Re, Dq, ReadyBusy, Busy, ArrayBusy, Failed, Other}
use Rattle.bus_signals.specs.declared.names.Meaning.{Meaning}

-- ---- a name as a number: its characters one after the other

abbrev pub text_number : ℕ → List ℕ → ℕ
text_number n [] = n
text_number n (b ∷ text) = text_number (256 * n + b) text

abbrev pub is_called : ℕ → List ℕ → Bool
is_called plain text = plain == text_number 0 text

-- / (47), # (35), _ (95), - (45) and \ (92) only separate
abbrev pub is_separator : ℕ → Bool
is_separator b = b == 47 || (b == 35 || (b == 95 || (b == 45 || b == 92)))

abbrev pub lower : ℕ → ℕ
lower b = if nat_le 65 b && nat_le b 90 then b + 32 else b

abbrev pub may_go_on : ℕ → Bool
may_go_on n = nat_lt n 72057594037927936

abbrev pub with_letter : ℕ → ℕ → Option ℕ
with_letter n b = if is_separator b then Some n else (if may_go_on n then Some (256 * n + lower b) else None)

abbrev pub plain_after : Option ℕ → ℕ → Option ℕ
plain_after None b = None
plain_after (Some n) b = with_letter n b

-- the name up to a bracket (91)
abbrev pub plain_from : Option ℕ → List ℕ → ℕ
plain_from n [] = unwrap_or n 0
plain_from n (b ∷ name) = if b == 91 then unwrap_or n 0 else plain_from (plain_after n b) name

-- in lower case, without what separates; 0 where more than eight characters are left
abbrev pub plain_of : List ℕ → ℕ
plain_of name = plain_from (Some 0) name

-- ---- what it tells

abbrev pub digit_in : ℕ → Option ℕ
digit_in b = if is_digit b then Some (b - 48) else None

-- the digit at its end, and what stands before that
abbrev pub digit_of : ℕ → Option ℕ
digit_of plain = digit_in (plain % 256)

abbrev pub before_digit : Option ℕ → ℕ → ℕ
before_digit None plain = plain
before_digit (Some d) plain = plain / 256

abbrev pub stem_of : ℕ → ℕ
stem_of plain = before_digit (digit_of plain) plain

-- n, b and l at the end of a name: its signal is active when it is low
abbrev pub is_low_mark : ℕ → Bool
is_low_mark b = b == 110 || (b == 98 || b == 108)

abbrev pub is_enable : ℕ → Bool
is_enable stem = is_called stem (codes "ce") || is_called stem (codes "nce")

abbrev pub is_we : ℕ → Bool
is_we stem = is_called stem (codes "we") || is_called stem (codes "nwe")

abbrev pub is_re : ℕ → Bool
is_re stem = is_called stem (codes "re") || is_called stem (codes "nre")

abbrev pub is_dq : ℕ → Bool
is_dq stem = is_called stem (codes "dq") || (is_called stem (codes "io") || (is_called stem (codes "d") || is_called stem (codes "data")))

abbrev pub is_ready_busy : ℕ → Bool
is_ready_busy stem =
    is_called stem (codes "rb") || (is_called stem (codes "nrb") || (is_called stem (codes "rnb") || (
    is_called stem (codes "ryby") || (is_called stem (codes "rdybsy") || is_called stem (codes "ready")))))

-- what is active when it is low
abbrev pub low_family_of : ℕ → Family
low_family_of stem =
    if is_enable stem then Enable else (if is_we stem then We else (if is_re stem then Re else (if is_ready_busy stem then ReadyBusy else Other)))

abbrev pub family_of : ℕ → Family
family_of stem =
    if is_called stem (codes "cle") then Cle else (if is_called stem (codes "ale") then Ale else (if is_dq stem then Dq else low_family_of stem))

-- without a mark: cle, ce0, nce0, dq7
abbrev pub bare : ℕ → Meaning
bare plain = record { family = family_of (stem_of plain); number = digit_of plain; lun = None }

abbrev pub nothing : Meaning
nothing = record { family = Other; number = None; lun = None }

abbrev pub marked_by : Option ℕ → ℕ → Meaning
marked_by (Some d) inner = record { family = low_family_of inner; number = Some d; lun = None }
marked_by None inner = record { family = low_family_of (stem_of inner); number = digit_of inner; lun = None }

-- with a mark at its end, before or after its number: cen, cen0, ce0n
abbrev pub marked : ℕ → Meaning
marked plain = if is_low_mark (stem_of plain % 256) then marked_by (digit_of plain) (stem_of plain / 256) else nothing

abbrev pub model_family_of : ℕ → Family
model_family_of stem =
    if is_called stem (codes "busy") then Busy else (if is_called stem (codes "array") then ArrayBusy else (if is_called stem (codes "fail") then Failed else Other))

-- one of ours, of a LUN: busy0_1
abbrev pub of_model : ℕ → Meaning
of_model plain = record { family = model_family_of (plain / 65536); number = digit_of (plain / 256); lun = digit_of plain }

abbrev pub number_of : Family → ℕ
number_of Enable = 0
number_of Cle = 1
number_of Ale = 2
number_of We = 3
number_of Re = 4
number_of Dq = 5
number_of ReadyBusy = 6
number_of Busy = 7
number_of ArrayBusy = 8
number_of Failed = 9
number_of Other = 10

abbrev pub is_other : Family → Bool
is_other Enable = false
is_other Cle = false
is_other Ale = false
is_other We = false
is_other Re = false
is_other Dq = false
is_other ReadyBusy = false
is_other Busy = false
is_other ArrayBusy = false
is_other Failed = false
is_other Other = true

-- what a name tells, given as a number
abbrev pub named : ℕ → Meaning
named plain = if is_other (bare plain).family then (if is_other (marked plain).family then of_model plain else marked plain) else bare plain

-- the data strobe of a bus of double data rate: DQS, DQS_t or DQS_p
abbrev pub is_data_strobe : ℕ → Bool
is_data_strobe plain = is_called plain (codes "dqs") || (is_called plain (codes "dqst") || is_called plain (codes "dqsp"))
