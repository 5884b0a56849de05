-- The header: the lines with their codes, and their levels at first.
use Rattle.std.specs.Prelude.{ℕ, zero, suc, ◌+◌, ◌*◌, List, [], ◌∷◌, ◌++◌, codes}
use Rattle.nand_geometry.specs.declared.parts.Parts.{Parts}
use Rattle.bus_lines.specs.Lines.{idle}
use Rattle.trace_wave.specs.Levels.{levels}

-- a line, with its name
abbrev pub variable : (code : ℕ) → List ℕ → List ℕ
variable code name = codes "$var wire 1 " ++ (code ∷ 32 ∷ (name ++ codes " $end\n"))

-- the digit of a number below ten
abbrev pub digit : ℕ → ℕ
digit n = 48 + n

-- a line of so many targets, from number n on, as CE0_n, with the code of the first
abbrev pub target_lines : (code : ℕ) → List ℕ → (count n : ℕ) → List ℕ
target_lines code name zero n = []
target_lines code name (suc count) n = variable code (name ++ (digit n ∷ codes "_n")) ++ target_lines (code + 1) name count (n + 1)

-- a line for each of so many bits, the highest first, as DQ[7], with the code of the first
abbrev pub bit_lines : (code : ℕ) → List ℕ → (count : ℕ) → List ℕ
bit_lines code name zero = []
bit_lines code name (suc count) = variable code (name ++ (codes "[" ++ (digit count ∷ codes "]"))) ++ bit_lines (code + 1) name count

-- the three lines of a LUN: busy0_1, array0_1 and fail0_1
abbrev pub lun_lines : (code ce lun : ℕ) → List ℕ
lun_lines code ce lun = let of_lun = digit ce ∷ (codes "_" ++ (digit lun ∷ [])) in
    variable code (codes "busy" ++ of_lun) ++ (variable (code + 1) (codes "array" ++ of_lun) ++ variable (code + 2) (codes "fail" ++ of_lun))

-- those of so many LUNs of a target, from number n on
abbrev pub all_lun_lines : (code ce count n : ℕ) → List ℕ
all_lun_lines code ce zero n = []
all_lun_lines code ce (suc count) n = lun_lines code ce n ++ all_lun_lines (code + 3) ce count (n + 1)

-- those of so many targets of so many LUNs, from number n on
abbrev pub channel_lines : (code luns count n : ℕ) → List ℕ
channel_lines code luns zero n = []
channel_lines code luns (suc count) n = all_lun_lines code n luns 0 ++ channel_lines (code + 3 * luns) luns count (n + 1)

-- the lines of a bus of so many targets
abbrev pub bus_lines : ℕ → List ℕ
bus_lines targets =
    target_lines 33 (codes "CE") targets 0 ++ (variable (33 + targets) (codes "CLE") ++ (variable (34 + targets) (codes "ALE") ++ (variable (35 + targets) (codes "WE_n")
    ++ (variable (36 + targets) (codes "RE_n") ++ bit_lines (37 + targets) (codes "DQ") 8))))

-- the lines of the model, with the code of the first
abbrev pub model_lines : (code targets luns : ℕ) → List ℕ
model_lines code targets luns =
    target_lines code (codes "RB") targets 0 ++ (channel_lines (code + targets) luns targets 0 ++ bit_lines (code + targets + 3 * (targets * luns)) (codes "rule") 5)

-- the level of each line, with the codes from here on
abbrev pub settings : (code : ℕ) → List ℕ → List ℕ
settings code [] = []
settings code (level ∷ levels) = level ∷ code ∷ 10 ∷ settings (code + 1) levels

abbrev pub header : Parts → ℕ → List ℕ
header g targets =
    codes "$version onfiseq $end\n$timescale 1 ns $end\n$scope module channel $end\n"
    ++ (bus_lines targets ++ (model_lines (45 + targets) targets g.luns
    ++ (codes "$upscope $end\n$enddefinitions $end\n#0\n$dumpvars\n" ++ (settings 33 (levels g targets [] 0 idle) ++ codes "$end\n"))))
