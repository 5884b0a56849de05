-- The lines of a bus that a capture shows, and the signal of each.
use Rattle.std.specs.Prelude.{ℕ, zero, suc, ◌+◌, ◌-◌, ◌*◌, ◌/◌, ◌%◌, ◌==◌, ◌||◌, ◌&&◌, not, Bool, true, false, nat_le, nat_lt, min, if◌then◌else◌, List, [], ◌∷◌, ◌++◌, Option, Some, None, Result, Ok, Err}
use Rattle.std.specs.Str.{bytes_eq}
use Rattle.vcd_text.specs.Tokens.{◌>>=◌}
use Rattle.vcd_text.specs.Header.{Variable}
use Rattle.bus_signals.specs.declared.names.Family.{Family}
use Rattle.bus_signals.specs.declared.names.Family.TheVariants as family
use Rattle.bus_signals.specs.declared.role.Role.{Role}
use Rattle.bus_signals.specs.declared.role.Role.TheVariants.{Enable, Cle, Ale, We, Re, Dq, ReadyBusy, Busy, ArrayBusy, Failed}
use Rattle.bus_signals.specs.declared.spot.Spot.{Spot}
use Rattle.bus_signals.specs.declared.spot.Spot.TheVariants as spot
use Rattle.bus_signals.specs.declared.mapping.Mapping.{Mapping}
use Rattle.bus_signals.specs.declared.carrier.Carrier.{Carrier}
use Rattle.bus_signals.specs.declared.source.Source.{Source}
use Rattle.bus_signals.specs.declared.fault.RoleFault.{RoleFault}
use Rattle.bus_signals.specs.declared.fault.RoleFault.TheVariants.{Missing, Twice}
use Rattle.bus_signals.specs.Names.{plain_of, named, number_of}
use Rattle.bus_signals.specs.Spots.{spot_of, place_in}

-- the place of a line among the levels of all
abbrev pub of_sixteen : (ce lun : ℕ) → ℕ
of_sixteen ce lun = 4 * min ce 3 + min lun 3

abbrev pub place_of : Role → ℕ
place_of (Enable n) = min n 3
place_of Cle = 4
place_of Ale = 5
place_of We = 6
place_of Re = 7
place_of (Dq bit) = 8 + min bit 7
place_of (ReadyBusy n) = 64 + min n 3
place_of (Busy ce lun) = 16 + of_sixteen ce lun
place_of (ArrayBusy ce lun) = 32 + of_sixteen ce lun
place_of (Failed ce lun) = 48 + of_sixteen ce lun

abbrev pub family_of_role : Role → Family
family_of_role (Enable n) = family.Enable
family_of_role Cle = family.Cle
family_of_role Ale = family.Ale
family_of_role We = family.We
family_of_role Re = family.Re
family_of_role (Dq bit) = family.Dq
family_of_role (ReadyBusy n) = family.ReadyBusy
family_of_role (Busy ce lun) = family.Busy
family_of_role (ArrayBusy ce lun) = family.ArrayBusy
family_of_role (Failed ce lun) = family.Failed

-- ---- what a signal is

-- a name and its range, one after the other, are this text
abbrev pub is_joined : (name range text : List ℕ) → Bool
is_joined [] range text = bytes_eq range text
is_joined (b ∷ name) range [] = false
is_joined (b ∷ name) range (t ∷ text) = if b == t then is_joined name range text else false

-- somebody may call a signal so: by its name, with its range or without
abbrev pub is_name : Variable → List ℕ → Bool
is_name v text = bytes_eq v.name text || is_joined v.name v.range text

-- a signal that is what this name tells, as it was given that role or is called so
abbrev pub carrier_as : (given : Bool) → (plain : ℕ) → Variable → Carrier
carrier_as given plain v = record { meaning = named plain; spot = spot_of v.name v.range; width = v.width; code = v.code; is_given = given }

-- a role is given to a signal
abbrev pub is_given : List Mapping → Variable → Bool
is_given [] v = false
is_given (m ∷ mappings) v = is_name v m.name.now || is_given mappings v

abbrev pub given_if : Bool → Mapping → Variable → List Carrier
given_if b m v = if b then carrier_as true (plain_of m.role.now) v ∷ [] else []

-- each role that is given to it
abbrev pub given_carriers : List Mapping → Variable → List Carrier
given_carriers [] v = []
given_carriers (m ∷ mappings) v = given_if (is_name v m.name.now) m v ++ given_carriers mappings v

-- what a signal is: all that it is given as, or what its own name tells
abbrev pub carriers_for : List Mapping → Variable → List Carrier
carriers_for mappings v = if is_given mappings v then given_carriers mappings v else carrier_as false (plain_of v.name) v ∷ []

-- what each signal is
abbrev pub carriers_of : List Mapping → List Variable → List Carrier
carriers_of mappings [] = []
carriers_of mappings (v ∷ variables) = carriers_for mappings v ++ carriers_of mappings variables

-- ---- the bit of a signal that is a line

abbrev pub is_number : Option ℕ → ℕ → Bool
is_number None n = false
is_number (Some m) n = m == n

abbrev pub is_none : Option ℕ → Bool
is_none None = true
is_none (Some m) = false

-- a signal of one bit
abbrev pub only_bit : Carrier → Option ℕ
only_bit c = if c.width == 1 then Some 0 else None

-- a line of which there is one
abbrev pub single : Carrier → Option ℕ
single c = if is_none c.meaning.number then only_bit c else None

abbrev pub is_bit : Spot → Bool
is_bit spot.Bare = false
is_bit (spot.First n) = false
is_bit (spot.Second first n) = false
is_bit (spot.Bit n) = true
is_bit (spot.Bits first last) = false
is_bit spot.Wrong = false

-- a line with a number: of a signal of one bit that has the number in its name, or the bit of this number in a signal that has at least so many, or is a bit itself
abbrev pub numbered : Carrier → (n least : ℕ) → Option ℕ
numbered c n least =
    if is_none c.meaning.number then (if nat_le least c.width || is_bit c.spot then place_in c.spot c.width n else None)
    else (if is_number c.meaning.number n then only_bit c else None)

-- a line of a LUN
abbrev pub of_lun : Carrier → (ce lun : ℕ) → Option ℕ
of_lun c ce lun = if is_number c.meaning.number ce && is_number c.meaning.lun lun then only_bit c else None

abbrev pub bit_by : Role → Carrier → Option ℕ
bit_by (Enable n) c = numbered c n 1
bit_by Cle c = single c
bit_by Ale c = single c
bit_by We c = single c
bit_by Re c = single c
bit_by (Dq bit) c = numbered c bit 8
bit_by (ReadyBusy n) c = numbered c n 1
bit_by (Busy ce lun) c = of_lun c ce lun
bit_by (ArrayBusy ce lun) c = of_lun c ce lun
bit_by (Failed ce lun) c = of_lun c ce lun

-- the place from the right of the bit of a signal that is this line, if one is
abbrev pub bit_for : Role → Carrier → Option ℕ
bit_for role c = if number_of (family_of_role role) == number_of c.meaning.family then bit_by role c else None

-- ---- the signal of each line

abbrev pub is_same : Bool → Bool → Bool
is_same true true = true
is_same true false = false
is_same false true = false
is_same false false = true

abbrev pub source_by : Role → ℕ → Option ℕ → Option Source
source_by role code None = None
source_by role code (Some place) = Some (record { role = role; code = code; place = place })

-- where a line is, if this signal has it, of those that were given their role or of the others
abbrev pub source_in : Role → Bool → Carrier → Option Source
source_in role given c = if is_same given c.is_given then source_by role c.code (bit_for role c) else None

abbrev pub is_same_bit : Source → Source → Bool
is_same_bit s t = s.code == t.code && s.place == t.place

-- a line may have two names, but no two signals
abbrev pub joined : Role → Option Source → Option Source → Result (Option Source) RoleFault
joined role found None = Ok found
joined role None (Some s) = Ok (Some s)
joined role (Some t) (Some s) = if is_same_bit t s then Ok (Some t) else Err (Twice role)

abbrev pub found_from : Role → Bool → Option Source → List Carrier → Result (Option Source) RoleFault
found_from role given found [] = Ok found
found_from role given found (c ∷ carriers) = joined role found (source_in role given c) >>= λ now. found_from role given now carriers

-- one R/B# of several targets: a signal of one bit, without a number
abbrev pub is_shared : Carrier → Bool
is_shared c = number_of c.meaning.family == 6 && (is_none c.meaning.number && (c.width == 1 && not (is_bit c.spot)))

abbrev pub shared_by : Role → Carrier → Option Source
shared_by (Enable n) c = None
shared_by Cle c = None
shared_by Ale c = None
shared_by We c = None
shared_by Re c = None
shared_by (Dq bit) c = None
shared_by (ReadyBusy n) c = if is_shared c then Some (record { role = ReadyBusy n; code = c.code; place = 0 }) else None
shared_by (Busy ce lun) c = None
shared_by (ArrayBusy ce lun) c = None
shared_by (Failed ce lun) c = None

abbrev pub shared_from : Role → Option Source → List Carrier → Result (Option Source) RoleFault
shared_from role found [] = Ok found
shared_from role found (c ∷ carriers) = joined role found (shared_by role c) >>= λ now. shared_from role now carriers

abbrev pub or_shared : Role → List Carrier → Option Source → Result (Option Source) RoleFault
or_shared role carriers (Some s) = Ok (Some s)
or_shared role carriers None = shared_from role None carriers

abbrev pub or_other : Role → List Carrier → Option Source → Result (Option Source) RoleFault
or_other role carriers (Some s) = Ok (Some s)
or_other role carriers None = found_from role false None carriers >>= λ found. or_shared role carriers found

-- where a line is: what was given goes before what names tell, and an R/B# of its own before the one of several targets
abbrev pub source_of : Role → List Carrier → Result (Option Source) RoleFault
source_of role carriers = found_from role true None carriers >>= λ found. or_other role carriers found

-- ---- all lines

-- the line of this number
abbrev pub role_at : ℕ → Role
role_at n =
    if nat_lt n 4 then Enable n else (if n == 4 then Cle else (if n == 5 then Ale else (if n == 6 then We else (if n == 7 then Re else (
    if nat_lt n 16 then Dq (n - 8) else (if nat_lt n 32 then Busy ((n - 16) / 4) ((n - 16) % 4) else (
    if nat_lt n 48 then ArrayBusy ((n - 32) / 4) ((n - 32) % 4) else (if nat_lt n 64 then Failed ((n - 48) / 4) ((n - 48) % 4) else ReadyBusy (n - 64)))))))))

-- a line that a channel of so many targets has
abbrev pub is_there : ℕ → Role → Bool
is_there targets (Enable n) = nat_lt n targets
is_there targets Cle = true
is_there targets Ale = true
is_there targets We = true
is_there targets Re = true
is_there targets (Dq bit) = true
is_there targets (ReadyBusy n) = nat_lt n targets
is_there targets (Busy ce lun) = nat_lt ce targets
is_there targets (ArrayBusy ce lun) = nat_lt ce targets
is_there targets (Failed ce lun) = nat_lt ce targets

-- a line without which nothing can be sampled
abbrev pub is_needed : Role → Bool
is_needed (Enable n) = true
is_needed Cle = true
is_needed Ale = true
is_needed We = true
is_needed Re = true
is_needed (Dq bit) = true
is_needed (ReadyBusy n) = false
is_needed (Busy ce lun) = false
is_needed (ArrayBusy ce lun) = false
is_needed (Failed ce lun) = false

abbrev pub listed : Role → Option Source → Result (List Source) RoleFault
listed role (Some s) = Ok (s ∷ [])
listed role None = if is_needed role then Err (Missing role) else Ok []

abbrev pub sources_at : ℕ → List Carrier → Role → Result (List Source) RoleFault
sources_at targets carriers role = if is_there targets role then (source_of role carriers >>= λ found. listed role found) else Ok []

-- where so many lines are, from this number on, after these
unfoldable pub sources_from : ℕ → List Carrier → List Source → (count n : ℕ) → Result (List Source) RoleFault
sources_from targets carriers sources zero n = Ok sources
sources_from targets carriers sources (suc count) n =
    sources_at targets carriers (role_at n) >>= λ more. sources_from targets carriers (sources ++ more) count (n + 1)

-- where all lines of a channel are
abbrev pub sources_of : ℕ → List Carrier → Result (List Source) RoleFault
sources_of targets carriers = sources_from targets carriers [] 68 0
