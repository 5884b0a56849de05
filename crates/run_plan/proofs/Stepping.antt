-- What is counted of a text is how many lines it has, its loops written out.
use Rattle.std.proofs.Common.{◌≡◌, ℕ, zero, suc, ◌+◌, ◌*◌, ◌-◌, ◌^◌, List, [], ◌∷◌, ◌++◌, length, map, refl, sym, ap, ◌∙◌, arith}
use Rattle.std.specs.List.{sum_by}
use Rattle.std.proofs.lemmas.List.{length-append}
use Rattle.std.proofs.lemmas.List.Sums.{sum_by-append}
use Rattle.micro_word.specs.declared.word.Word.{Word}
use Rattle.micro_word.specs.declared.word.Word.TheVariants.{End, Command, Address, Get, Put, Seek, Column, RowAdd, Row, Plane, Wait, Yield, ReadStatus, BranchOnStatus, Loop, Next, Jump}
use Rattle.micro_program.specs.Lines.{Line, Unrolling, repeated, looped, word_before, unrolling, unrolled}
use Rattle.micro_program.specs.Program.{Job}
use Rattle.run_plan.specs.Steps.{capped, steps_of, steps_of_all, Counted, loop_counted, counted_before, counted_from}

repeated_length : (turns : ℕ) (lines : List Line) → length (repeated turns lines) ≡ length lines * turns
repeated_length zero lines = omega arith
repeated_length (suc turns) lines =
    let again = repeated_length turns lines in
    let both = length-append lines (repeated turns lines) in
    let more : length lines * suc turns ≡ length lines + length lines * turns = grind arith in
    both ∙ (ap (λ (n : ℕ). length lines + n) again ∙ sym more)

-- sums and products of numbers that are cut off
sum_capped : (a b : ℕ) → capped (capped a + b) ≡ capped (a + b)
sum_capped a b = omega arith

both_capped : (a b : ℕ) → capped (capped a + capped b) ≡ capped (a + b)
both_capped a b = omega arith

times_capped : (a t : ℕ) → capped (capped a * t) ≡ capped (a * t)
times_capped a zero = omega arith
times_capped a (suc t) = at (a - (2 ^ 64 - 1)) refl
  where
    at : (over : ℕ) → a - (2 ^ 64 - 1) ≡ over → capped (capped a * suc t) ≡ capped (a * suc t)
    at zero is = let same : capped a ≡ a = omega arith in ap (λ (n : ℕ). capped (n * suc t)) same
    at (suc over) is =
        let same : capped a ≡ 2 ^ 64 - 1 = omega arith in
        let left : (2 ^ 64 - 1) * suc t ≡ (2 ^ 64 - 1) + (2 ^ 64 - 1) * t = grind arith in
        let right : a * suc t ≡ a + a * t = grind arith in
        ap (λ (n : ℕ). capped (n * suc t)) same ∙ omega (arith, left, right, is)

-- what an unrolling counts
abbrev count_of : Unrolling → Counted
count_of u = record { words = capped (length u.lines); outer = map (λ (lines : List Line). capped (length lines)) u.outer }

-- one line more
one_counted : (n : ℕ) → capped (capped n + 1) ≡ capped (suc n)
one_counted n = omega arith

-- a loop
loop_counts : (line : Line) (turns : ℕ) (lines : List Line) (outer : List (List Line))
    → loop_counted turns (capped (length lines)) (map (λ (l : List Line). capped (length l)) outer) ≡ count_of (looped line turns lines outer)
loop_counts line turns lines [] = ap (λ (n : ℕ). (let c : Counted = record { words = n; outer = [] } in c)) (one_counted (length lines))
loop_counts line turns lines (rest ∷ outer) =
    let many = repeated_length turns lines in
    let both = length-append (repeated turns lines) rest in
    let times = times_capped (length lines) turns in
    let all : capped (capped (capped (capped (length lines) * turns) + capped (length rest)) + 1) ≡ capped (suc (length (repeated turns lines ++ rest))) =
    ap (λ (n : ℕ). capped (capped (n + capped (length rest)) + 1)) times
    ∙ ap (λ (n : ℕ). capped (n + 1)) (both_capped (length lines * turns) (length rest))
    ∙ one_counted (length lines * turns + length rest)
    ∙ ap (λ (n : ℕ). capped (suc n)) (ap (λ (n : ℕ). n + length rest) (sym many) ∙ sym both) in
    ap (λ (n : ℕ). (let c : Counted = record { words = n; outer = map (λ (l : List Line). capped (length l)) outer } in c)) all

one_more : (line : Line) (u : Unrolling)
    → (let c : Counted = record { words = capped (capped (length u.lines) + 1); outer = map (λ (l : List Line). capped (length l)) u.outer } in c) ≡ count_of (record { lines = line ∷ u.lines; outer = u.outer })
one_more line u = ap (λ (n : ℕ). (let c : Counted = record { words = n; outer = map (λ (l : List Line). capped (length l)) u.outer } in c)) (one_counted (length u.lines))

-- a word in front
word_counts : (line : Line) (u : Unrolling) (word : Word) → counted_before word (count_of u) ≡ count_of (word_before line u word)
word_counts line u Next = refl
word_counts line u (Loop turns) = loop_counts line turns u.lines u.outer
word_counts line u (End code) = one_more line u
word_counts line u (Command byte) = one_more line u
word_counts line u (Address from count) = one_more line u
word_counts line u (Get len) = one_more line u
word_counts line u (Put len) = one_more line u
word_counts line u (Seek place) = one_more line u
word_counts line u (Column column) = one_more line u
word_counts line u (RowAdd rows) = one_more line u
word_counts line u (Row row) = one_more line u
word_counts line u (Plane plane) = one_more line u
word_counts line u Wait = one_more line u
word_counts line u Yield = one_more line u
word_counts line u ReadStatus = one_more line u
word_counts line u (BranchOnStatus mask target) = one_more line u
word_counts line u (Jump target) = one_more line u

counts_from : (words : List Word) (at : ℕ) → counted_from words ≡ count_of (unrolling words at)
counts_from [] at = refl
counts_from (word ∷ words) at = ap (counted_before word) (counts_from words (at + 1)) ∙ word_counts (record { at = at; word = word }) (unrolling words (at + 1)) word

pub counts_lines : (words : List Word) → (counted_from words).words ≡ capped (length (unrolled words))
unfolding unrolled
counts_lines words = ap (λ (c : Counted). c.words) (counts_from words 0)

-- one job more
pub one_job_counted : (jobs : List Job) (job : Job) → capped (steps_of_all jobs + capped (steps_of job)) ≡ steps_of_all (jobs ++ job ∷ [])
one_job_counted jobs job =
    both_capped (sum_by steps_of jobs) (steps_of job)
    ∙ ap capped (sym (sum_by-append steps_of jobs (job ∷ []) ∙ omega arith))
