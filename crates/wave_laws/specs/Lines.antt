-- Which signal of a dump is which line of the bus.
use Rattle.std.specs.Prelude.{◌≡◌, ℕ, ◌+◌, ◌*◌, ◌≤◌, zero, suc, List, [], ◌∷◌, ◌++◌, Ok}
use Rattle.bus_signals.specs.declared.role.Role.{Role}
use Rattle.bus_signals.specs.declared.role.Role.TheVariants.{Enable, Cle, Ale, We, Re, Dq, ReadyBusy, Busy, ArrayBusy, Failed}
use Rattle.bus_signals.specs.declared.source.Source.{Source}
use Rattle.bus_signals.specs.Roles.{carriers_of, sources_of}
use Rattle.wave_laws.specs.Told.{signals_of}

-- a line is the only bit of the signal with this code
abbrev pub line : Role → (code : ℕ) → Source
line role code = record { role = role; code = code; place = 0 }

-- a line of so many targets, from number n on, with the code of the first
abbrev pub target_roles : (ℕ → Role) → (code count n : ℕ) → List Source
target_roles role code zero n = []
target_roles role code (suc count) n = line (role n) code ∷ target_roles role (code + 1) count (n + 1)

-- DQ, the lowest bit first; the highest has this code, and each lower one the next
abbrev pub dq_roles : (code : ℕ) → List Source
dq_roles code =
    line (Dq 0) (code + 7) ∷ (line (Dq 1) (code + 6) ∷ (line (Dq 2) (code + 5) ∷ (line (Dq 3) (code + 4) ∷ (line (Dq 4) (code + 3) ∷ (line (Dq 5) (code + 2) ∷ (line (Dq 6) (code + 1) ∷ (line (Dq 7) code ∷ [])))))))

-- a line of so many LUNs of a target, from number n on; each LUN has three codes
abbrev pub lun_roles : (ℕ → Role) → (code count n : ℕ) → List Source
lun_roles role code zero n = []
lun_roles role code (suc count) n = line (role n) code ∷ lun_roles role (code + 3) count (n + 1)

-- those of so many targets
abbrev pub channel_roles : (ℕ → ℕ → Role) → (code luns count n : ℕ) → List Source
channel_roles role code luns zero n = []
channel_roles role code luns (suc count) n = lun_roles (role n) code luns 0 ++ channel_roles role (code + 3 * luns) luns count (n + 1)

-- the lines of a bus of so many targets of so many LUNs, and of its model
abbrev pub lines_of : (targets luns : ℕ) → List Source
lines_of targets luns =
    target_roles Enable 33 targets 0 ++ (line Cle (33 + targets) ∷ (line Ale (34 + targets) ∷ (line We (35 + targets) ∷ (line Re (36 + targets)
    ∷ (dq_roles (37 + targets) ++ (channel_roles Busy (45 + targets + targets) luns targets 0 ++ (channel_roles ArrayBusy (46 + targets + targets) luns targets 0
    ++ (channel_roles Failed (47 + targets + targets) luns targets 0 ++ target_roles ReadyBusy (45 + targets) targets 0))))))))

-- by their names alone the signals of a dump are these lines, and each of them is found
abbrev pub NamesAreLines : Type 0
NamesAreLines = (targets luns : ℕ) → 1 ≤ targets → targets ≤ 4 → 1 ≤ luns → luns ≤ 4 → sources_of targets (carriers_of [] (signals_of targets luns)) ≡ Ok (lines_of targets luns)
