-- How many lines a text has, its loops written out, four deep at most.
use Rattle.std.proofs.Common.{◌≡◌, ℕ, zero, suc, ◌+◌, ◌*◌, ◌^◌, ◌≤◌, List, [], ◌∷◌, length, drop, Some, refl, sym, ap, ◌∙◌, subst, arith}
use Rattle.std.specs.List.{slice_get}
use Rattle.std.proofs.lemmas.List.{length-append}
use Rattle.std.proofs.lemmas.Nat.{mul-le}
use Rattle.micro_word.specs.declared.word.Word.{Word}
use Rattle.micro_word.specs.declared.word.Word.TheVariants.{Loop, Next}
use Rattle.micro_program.specs.Lines.{Line, Unrolling, repeated, looped, word_before, unrolling, unrolled}
use Rattle.micro_program.specs.Places.{IsShaped, LinesAreFew}

repeated_length : (turns : ℕ) (lines : List Line) → length (repeated turns lines) ≡ turns * length lines
repeated_length zero lines = omega arith
repeated_length (suc turns) lines =
    let again = repeated_length turns lines in
    let both = length-append lines (repeated turns lines) in
    let more : suc turns * length lines ≡ length lines + turns * length lines = grind arith in
    both ∙ (ap (λ (n : ℕ). length lines + n) again ∙ sym more)

few_turns : (turns : ℕ) (lines : List Line) → turns ≤ 4096 → length (repeated turns lines) ≤ 4096 * length lines
few_turns turns lines h =
    let same = repeated_length turns lines in
    let self : length lines ≤ length lines = omega arith in
    let most = mul-le turns (length lines) 4096 (length lines) h self in
    omega (arith, same, most)

-- what so many lines weigh: each loop around them, that these lines follow, counts 4,096 times
abbrev weigh : ℕ → List (List Line) → ℕ
weigh n [] = n
weigh n (a ∷ outer) = weigh (4096 * n + length a) outer

abbrev weight : Unrolling → ℕ
weight u = weigh (length u.lines) u.outer

-- what a line more weighs
abbrev unit : List (List Line) → ℕ
unit [] = 1
unit (a ∷ outer) = 4096 * unit outer

more : (n m : ℕ) (outer : List (List Line)) → weigh (n + m) outer ≡ weigh n outer + m * unit outer
more n m [] = omega arith
more n m (a ∷ outer) =
    let same : 4096 * (n + m) + length a ≡ (4096 * n + length a) + 4096 * m = omega arith in
    let times : 4096 * m * unit outer ≡ m * (4096 * unit outer) = omega arith in
    ap (λ (k : ℕ). weigh k outer) same ∙ (more (4096 * n + length a) (4096 * m) outer ∙ ap (λ (k : ℕ). weigh (4096 * n + length a) outer + k) times)

less : (n m : ℕ) (outer : List (List Line)) → n ≤ m → weigh n outer ≤ weigh m outer
less n m [] h = h
less n m (a ∷ outer) h = less (4096 * n + length a) (4096 * m + length a) outer (omega (arith, h))

light : (outer : List (List Line)) → length outer ≤ 4 → unit outer ≤ 2 ^ 48
light [] h = omega arith
light (a ∷ []) h = omega arith
light (a ∷ (b ∷ [])) h = omega arith
light (a ∷ (b ∷ (c ∷ []))) h = omega arith
light (a ∷ (b ∷ (c ∷ (d ∷ [])))) h = omega arith
light (a ∷ (b ∷ (c ∷ (d ∷ (e ∷ outer))))) h = absurd (omega (arith, h))

one_more : (n : ℕ) (outer : List (List Line)) → length outer ≤ 4 → weigh (suc n) outer ≤ weigh n outer + 2 ^ 48
one_more n outer h =
    let same : n + 1 ≡ suc n = omega arith in
    let m = sym (ap (λ (k : ℕ). weigh k outer) same) ∙ more n 1 outer in
    let l = light outer h in
    omega (arith, m, l)

at_next : (line : Line) (lines : List Line) (outer : List (List Line)) → length (lines ∷ outer) ≤ 4 → weigh (length (line ∷ [])) (lines ∷ outer) ≤ weigh (length lines) outer + 2 ^ 48
at_next line lines outer h =
    let same : 4096 * 1 + length lines ≡ length lines + 4096 = omega arith in
    let m = ap (λ (k : ℕ). weigh k outer) same ∙ more (length lines) 4096 outer in
    let l = light (lines ∷ outer) h in
    omega (arith, m, l)

at_loop : (line : Line) (turns : ℕ) (lines : List Line) (outer : List (List Line)) → turns ≤ 4096 → length outer ≤ 4 → weight (looped line turns lines outer) ≤ weigh (length lines) outer + 2 ^ 48
at_loop line turns lines [] few h = omega arith
at_loop line turns lines (a ∷ outer) few h =
    let m = few_turns turns lines few in
    let both = length-append (repeated turns lines) a in
    let w = one_more (length (repeated turns lines) + length a) outer (omega (arith, h)) in
    let same : weigh (suc (length (repeated turns lines) + length a)) outer ≡ weight (looped line turns lines (a ∷ outer)) = ap (λ (k : ℕ). weigh (suc k) outer) (sym both) in
    let fewer = less (length (repeated turns lines) + length a) (4096 * length lines + length a) outer (omega (arith, m)) in
    omega (arith, w, same, fewer)

-- a loop has few turns
abbrev FewTurns : Word → Type 0
FewTurns (Loop turns) = turns ≤ 4096
FewTurns _ = Unit {0}

-- loops from here on are nested four deep at most, and have few turns
abbrev AreFew : List Word → ℕ → Type 0
AreFew [] at = Unit {0}
AreFew (word ∷ words) at = (length (unrolling (word ∷ words) at).outer ≤ 4) × (length (unrolling words (at + 1)).outer ≤ 4) × FewTurns word × AreFew words (at + 1)

weighs : (line : Line) (u : Unrolling) (word : Word) → FewTurns word → length u.outer ≤ 4 → length (word_before line u word).outer ≤ 4 → weight (word_before line u word) ≤ weight u + 2 ^ 48
weighs line u (Loop turns) few here h = at_loop line turns u.lines u.outer few here
weighs line u Next few here h = at_next line u.lines u.outer h
weighs line u _ few here h = one_more (length u.lines) u.outer here

weighs_all : (words : List Word) (at : ℕ) → AreFew words at → weight (unrolling words at) ≤ 2 ^ 48 * length words
weighs_all [] at h = omega arith
weighs_all (word ∷ words) at h =
    let rest = weighs_all words (at + 1) h.3 in
    let here = weighs (record { at = at; word = word }) (unrolling words (at + 1)) word h.2 h.1 h.0 in
    omega (arith, rest, here)

drop_next : (words : List Word) (at : ℕ) (word : Word) (rest : List Word) → drop at words ≡ word ∷ rest → (slice_get words at ≡ Some word) × (drop (at + 1) words ≡ rest)
drop_next [] zero word rest h = absurd cc
drop_next [] (suc at) word rest h = absurd cc
drop_next (first ∷ words) zero word rest h =
    let head : first ≡ word = cc in
    let tail : words ≡ rest = cc in
    (ap (λ (w : Word). Some w) head, tail)
drop_next (first ∷ words) (suc at) word rest h =
    let later = drop_next words at word rest h in
    let next : suc at + 1 ≡ suc (at + 1) = omega arith in
    (later.0, ap (λ (k : ℕ). drop k (first ∷ words)) next ∙ later.1)

few_at : (words : List Word) (at : ℕ) (word : Word) → IsShaped words → slice_get words at ≡ Some word → FewTurns word
few_at words at (Loop turns) shaped here = (shaped.fits at (Loop turns) here).most
few_at words at _ shaped here = tt

are_few : (words rest : List Word) (at : ℕ) → IsShaped words → drop at words ≡ rest → AreFew rest at
are_few words [] at shaped h = tt
are_few words (word ∷ rest) at shaped h =
    let next = drop_next words at word rest h in (
      subst (λ (ws : List Word). length (unrolling ws at).outer ≤ 4) h (shaped.depth at),
      subst (λ (ws : List Word). length (unrolling ws (at + 1)).outer ≤ 4) next.1 (shaped.depth (at + 1)),
      few_at words at word shaped next.0,
      are_few words rest (at + 1) shaped next.1,
    )

pub lines_are_few : LinesAreFew
unfolding unrolled
lines_are_few words shaped =
    let all = weighs_all words 0 (are_few words words 0 shaped refl) in
    subst (λ (outer : List (List Line)). weigh (length (unrolling words 0).lines) outer ≤ 2 ^ 48 * length words) shaped.paired all
