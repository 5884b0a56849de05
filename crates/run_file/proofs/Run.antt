-- The statements of a text are in order, in their ranges and not too many.
use Rattle.std.proofs.Common.{◌≡◌, ℕ, ◌+◌, ◌≤◌, Bool, true, false, not, ◌&&◌, leb, ltb, if◌then◌else◌, List, [], ◌∷◌, ◌++◌, length, codes, Option, Some, None, Result, Ok, Err, refl, arith}
use Rattle.std.specs.Prelude.{IfOk, IfSome, ok_or}
use Rattle.std.specs.List.{AllByRecursion}
use Rattle.std.proofs.lemmas.Bool.{leb-true, leb-false, ltb-false}
use Rattle.micro_asm.specs.Line.{◌>>=◌, fields, before_comment, number_of}
use Rattle.micro_asm.specs.Reading.{lines}
use Rattle.run_file.specs.declared.name.Name.{Name}
use Rattle.run_file.specs.declared.name.Name.TheVariants as name
use Rattle.run_file.specs.declared.polled.Polled.{Polled}
use Rattle.run_file.specs.declared.polled.Polled.TheVariants as polled
use Rattle.run_file.specs.declared.refusal.RunFault.{RunFault}
use Rattle.run_file.specs.declared.refusal.RunFault.TheVariants.{UnknownLine, BadNumber, OutOfOrder}
use Rattle.run_file.specs.Line.{Statement, Page, Targets, Image, Job, Polls, Fail, is_named, name_of, path_of, number_in, page_line, targets_line, image_line, job_files, job_line, polled_of, each_polls, work_polls, lun_polls, polls_line, fail_line, tells_before, named_line, fields_line, spelled}
use Rattle.run_file.specs.Told.{Numbered, Told, is_page, is_targets, is_job, stands_once, repeats, stands_before, is_in_order, jobs_in, placed, judged, stopped, ended, after_line, told_from, told}
use Rattle.run_file.specs.Run.{IsInRange, HasNumbersInRange, HasHead, HasNoneTwice, IsOrderly, IsRun}
use Rattle.run_file.proofs.Steps.{one_job_more, no_job_more}

-- ---- ranges

then_given : {A B E : Type 0} (Q : A → Type 0) (P : B → Type 0) (r : Result A E) (f : A → Result B E)
    → IfOk r Q → ((x : A) → Q x → IfOk (f x) P) → IfOk (r >>= f) P
then_given Q P (Ok x) f h k = k x h
then_given Q P (Err e) f h k = tt

then_all : {A B E : Type 0} (P : B → Type 0) (r : Result A E) (f : A → Result B E) → ((x : A) → IfOk (f x) P) → IfOk (r >>= f) P
then_all P (Ok x) f k = k x
then_all P (Err e) f k = tt

abbrev IsBetween : ℕ → ℕ → ℕ → Type 0
IsBetween least greatest n = (least ≤ n) × (n ≤ greatest)

-- the number, if it passes
abbrev if_passed : Bool → ℕ → Result ℕ RunFault
if_passed passed n = if passed then Ok n else Err BadNumber

number_fits : (least greatest : ℕ) (field : List ℕ) → IfOk (number_in least greatest field) (IsBetween least greatest)
unfolding number_in
number_fits least greatest field = at (number_of field)
  where
    chosen : (n : ℕ) (t u : Bool) → leb least n ≡ t → leb n greatest ≡ u → IfOk (if_passed (t && u) n) (IsBetween least greatest)
    chosen n true true low high = (leb-true least n low, leb-true n greatest high)
    chosen n true false low high = tt
    chosen n false u low high = tt

    at : (o : Option ℕ) → IfOk (ok_or o BadNumber >>= λ n. if_passed (leb least n && leb n greatest) n) (IsBetween least greatest)
    at None = tt
    at (Some n) = chosen n (leb least n) (leb n greatest) refl refl

-- whatever a number is, what follows is fine
then_number : (P : Statement → Type 0) (field : List ℕ) (f : ℕ → Result Statement RunFault) → ((n : ℕ) → IfOk (f n) P)
    → IfOk (number_in 0 4294967295 field >>= f) P
then_number P field f k = then_all P (number_in 0 4294967295 field) f k

page_fits : (fs : List (List ℕ)) → IfOk (page_line fs) IsInRange
unfolding page_line
page_fits [] = tt
page_fits (path ∷ []) = then_all IsInRange (path_of path) _ (λ path. tt)
page_fits (a ∷ b ∷ rest) = tt

targets_fits : (fs : List (List ℕ)) → IfOk (targets_line fs) IsInRange
unfolding targets_line
targets_fits [] = tt
targets_fits (count ∷ []) = then_given (IsBetween 1 4) IsInRange (number_in 1 4 count) _ (number_fits 1 4 count) (λ n h. h)
targets_fits (a ∷ b ∷ rest) = tt

image_fits : (fs : List (List ℕ)) → IfOk (image_line fs) IsInRange
unfolding image_line
image_fits [] = tt
image_fits (a ∷ []) = tt
image_fits (a ∷ b ∷ []) = tt
image_fits (target ∷ lun ∷ path ∷ []) =
    then_all IsInRange (path_of path) _ (λ path. then_number IsInRange target _ (λ t. then_number IsInRange lun _ (λ l. tt)))
image_fits (a ∷ b ∷ c ∷ d ∷ rest) = tt

job_fits : (fs : List (List ℕ)) → IfOk (job_line fs) IsInRange
unfolding job_line
job_fits [] = tt
job_fits (a ∷ []) = tt
job_fits (a ∷ b ∷ []) = tt
job_fits (target ∷ lun ∷ base ∷ rest) =
    then_all IsInRange (job_files rest) _ (λ files.
    then_number IsInRange target _ (λ t. then_number IsInRange lun _ (λ l. then_number IsInRange base _ (λ b. tt))))

-- whatever work it is
count_fits : (work : Polled) (count : List ℕ) → IfOk (number_in 1 1000 count >>= λ n. Ok (Polls work n)) IsInRange
count_fits work count = then_given (IsBetween 1 1000) IsInRange (number_in 1 1000 count) _ (number_fits 1 1000 count) (λ n h. h)

polls_fits : (fs : List (List ℕ)) → IfOk (polls_line fs) IsInRange
unfolding polls_line each_polls work_polls lun_polls
polls_fits [] = tt
polls_fits (count ∷ []) = count_fits polled.Each count
polls_fits (work ∷ count ∷ []) = then_all IsInRange (ok_or (polled_of work) UnknownLine) _ (λ work. count_fits work count)
polls_fits (a ∷ b ∷ c ∷ []) = tt
polls_fits (word ∷ target ∷ lun ∷ count ∷ []) = at (is_named word (codes "lun"))
  where
    at : (t : Bool) → IfOk (if t then (number_in 0 4294967295 target >>= λ t. number_in 0 4294967295 lun >>= λ l.
        number_in 1 1000 count >>= λ n. Ok (Polls (polled.Lun t l) n)) else Err UnknownLine) IsInRange
    at true = then_number IsInRange target _ (λ t. then_number IsInRange lun _ (λ l. count_fits (polled.Lun t l) count))
    at false = tt
polls_fits (a ∷ b ∷ c ∷ d ∷ e ∷ rest) = tt

fail_fits : (fs : List (List ℕ)) → IfOk (fail_line fs) IsInRange
unfolding fail_line
fail_fits [] = tt
fail_fits (a ∷ []) = tt
fail_fits (a ∷ b ∷ []) = tt
fail_fits (target ∷ lun ∷ ready ∷ rest) =
    let from_one = number_fits 1 4294967295 ready in
    then_all IsInRange (tells_before rest) _ (λ e. then_number IsInRange target _ (λ t. then_number IsInRange lun _ (λ l.
    then_given (IsBetween 1 4294967295) IsInRange (number_in 1 4294967295 ready) _ from_one (λ n h. h.0))))

named_fits : (n : Name) (rest : List (List ℕ)) → IfOk (named_line n rest) IsInRange
unfolding named_line
named_fits name.Page rest = page_fits rest
named_fits name.Targets rest = targets_fits rest
named_fits name.Image rest = image_fits rest
named_fits name.Job rest = job_fits rest
named_fits name.Polls rest = polls_fits rest
named_fits name.Fail rest = fail_fits rest

abbrev IfAny : (Statement → Type 0) → Option Statement → Type 0
IfAny P o = IfSome o P

fields_fit : (fs : List (List ℕ)) → IfOk (fields_line fs) (IfAny IsInRange)
unfolding fields_line
fields_fit [] = tt
fields_fit (first ∷ rest) =
    then_all (IfAny IsInRange) (ok_or (name_of first) UnknownLine) _ (λ n.
    then_given IsInRange (IfAny IsInRange) (named_line n rest) _ (named_fits n rest) (λ s h. h))

spelled_fits : (line : List ℕ) → IfOk (spelled line) (IfAny IsInRange)
unfolding spelled
spelled_fits line = fields_fit (fields (before_comment line))

-- ---- one statement more

record MayFollow (before : List Numbered) (s : Statement) : Type 0 where
  fits : IsInRange s
  room : (is_job s && leb 65536 (jobs_in before)) ≡ false
  in_order : is_in_order before s ≡ true

judged_fits : (before : List Numbered) (line : List ℕ) → IfOk (judged before line) (IfAny (MayFollow before))
unfolding judged placed
judged_fits before line = then_given (IfAny IsInRange) (IfAny (MayFollow before)) (spelled line) _ (spelled_fits line) at
  where
    chosen : (s : Statement) (t u : Bool) → IsInRange s → (is_job s && leb 65536 (jobs_in before)) ≡ t → is_in_order before s ≡ u
        → IfOk (if t then Err BadNumber else (if u then Ok (Some s) else Err OutOfOrder)) (IfAny (MayFollow before))
    chosen s true u h many order = tt
    chosen s false true h many order = record { fits = h; room = many; in_order = order }
    chosen s false false h many order = tt

    at : (o : Option Statement) → IfAny IsInRange o → IfOk (placed before o) (IfAny (MayFollow before))
    at None h = tt
    at (Some s) h = chosen s (is_job s && leb 65536 (jobs_in before)) (is_in_order before s) h refl refl

all_more : {X : Type 0} (P : X → Type 0) (xs : List X) (x : X) → AllByRecursion P xs → P x → AllByRecursion P (xs ++ x ∷ [])
all_more P [] x h px = (px, tt)
all_more P (y ∷ ys) x h px = (h.0, all_more P ys x h.1 px)

head_more : (before : List Numbered) (s : Numbered) → HasHead before → is_in_order before s.1 ≡ true → HasHead (before ++ s ∷ [])
unfolding is_in_order
head_more [] s h order = order
head_more (p ∷ []) s h order = (h, order)
head_more (p ∷ t ∷ others) s h order = h

-- jobs and failures may come again
free_again : (s : Statement) → stands_once s ≡ false → (b : Statement) → repeats b s ≡ false
free_again (Page path) free b = absurd cc
free_again (Targets count) free b = absurd cc
free_again (Image target lun path) free b = absurd cc
free_again (Polls work count) free b = absurd cc
free_again (Job target lun base text input output) free b = at b
  where
    at : (b : Statement) → repeats b (Job target lun base text input output) ≡ false
    at (Page path) = refl
    at (Targets count) = refl
    at (Image t l path) = refl
    at (Job t l r x i o) = refl
    at (Polls work count) = refl
    at (Fail t l ready e) = refl
free_again (Fail target lun ready before) free b = at b
  where
    at : (b : Statement) → repeats b (Fail target lun ready before) ≡ false
    at (Page path) = refl
    at (Targets count) = refl
    at (Image t l path) = refl
    at (Job t l r x i o) = refl
    at (Polls work count) = refl
    at (Fail t l k e) = refl

none_of_free : (s : Statement) (before : List Numbered) → stands_once s ≡ false → stands_before s before ≡ false
unfolding stands_before
none_of_free s [] free = refl
none_of_free s (b ∷ before) free = rw (free_again s free b.1) (none_of_free s before free)

by_test : (t u : Bool) → not (t && u) ≡ true → (t ≡ false → u ≡ false) → u ≡ false
by_test true true h k = absurd cc
by_test true false h k = refl
by_test false u h k = k refl

-- targets don't repeat the page
targets_after_page : (p s : Statement) → is_page p ≡ true → is_targets s ≡ true → repeats p s ≡ false
targets_after_page (Page path) (Targets count) first second = refl
targets_after_page (Page path) (Page other) first second = absurd cc
targets_after_page (Page path) (Image t l other) first second = absurd cc
targets_after_page (Page path) (Job t l r x i o) first second = absurd cc
targets_after_page (Page path) (Polls work count) first second = absurd cc
targets_after_page (Page path) (Fail t l k e) first second = absurd cc
targets_after_page (Targets n) s first second = absurd cc
targets_after_page (Image t l path) s first second = absurd cc
targets_after_page (Job t l r x i o) s first second = absurd cc
targets_after_page (Polls work n) s first second = absurd cc
targets_after_page (Fail t l k e) s first second = absurd cc

none_before : (before : List Numbered) (s : Statement) → HasHead before → is_in_order before s ≡ true → stands_before s before ≡ false
unfolding is_in_order stands_before
none_before [] s h order = refl
none_before (p ∷ []) s h order = rw (targets_after_page p.1 s h order) refl
none_before (p ∷ t ∷ others) s h order = by_test (stands_once s) (stands_before s (p ∷ t ∷ others)) order (none_of_free s (p ∷ t ∷ others))

once_more : (before : List Numbered) (s : Numbered)
    → HasNoneTwice before → stands_before s.1 before ≡ false → HasNoneTwice (before ++ s ∷ [])
unfolding stands_before
once_more [] s h none = (tt, tt)
once_more (b ∷ before) s h none =
    let parts = at (repeats b.1 s.1) (stands_before s.1 before) none in
    (all_more (λ (l : Numbered). repeats b.1 l.1 ≡ false) before s h.0 parts.0, once_more before s h.1 parts.1)
  where
    at : (t u : Bool) → (if t then true else u) ≡ false → (t ≡ false) × (u ≡ false)
    at true u e = absurd cc
    at false u e = (refl, e)

jobs_more : (before : List Numbered) (s : Numbered)
    → jobs_in before ≤ 65536 → (is_job s.1 && leb 65536 (jobs_in before)) ≡ false → jobs_in (before ++ s ∷ []) ≤ 65536
jobs_more before s few room = at (is_job s.1) refl room
  where
    at : (t : Bool) → is_job s.1 ≡ t → (t && leb 65536 (jobs_in before)) ≡ false → jobs_in (before ++ s ∷ []) ≤ 65536
    at true is low = rw (one_job_more before s is) (omega (arith, leb-false 65536 (jobs_in before) low))
    at false is low = rw (no_job_more before s is) few

orderly_more : (before : List Numbered) (s : Numbered) → IsOrderly before → MayFollow before s.1 → IsOrderly (before ++ s ∷ [])
orderly_more before s h next = record {
  head = head_more before s h.head next.in_order;
  once = once_more before s h.once (none_before before s.1 h.head next.in_order);
  ranges = all_more HasNumbersInRange before s h.ranges next.fits;
  jobs = jobs_more before s h.jobs next.room;
}

-- ---- lines

step : (line : ℕ) (before : List Numbered) (r : Result (Option Statement) RunFault) (following : List Numbered → Told)
    → IsOrderly before → IfOk r (IfAny (MayFollow before))
    → ((now : List Numbered) → IsOrderly now → IsRun (following now)) → IsRun (after_line line before r following)
step line before (Ok None) following orderly fits next = next before orderly
step line before (Ok (Some s)) following orderly fits next = next (before ++ (line, s) ∷ []) (orderly_more before (line, s) orderly fits)
step line before (Err fault) following orderly fits next = record { orderly = orderly; whole = tt }

at_end : (line : ℕ) (before : List Numbered) → IsOrderly before → IsRun (ended line before)
at_end line before orderly = at (ltb (length before) 2) refl
  where
    at : (t : Bool) → ltb (length before) 2 ≡ t
        → IsRun (if t then stopped before OutOfOrder line else record { statements = before; fault = None })
    at true few = record { orderly = orderly; whole = tt }
    at false many = record { orderly = orderly; whole = ltb-false (length before) 2 many }

lines_are_run : (ls : List (List ℕ)) (line : ℕ) (before : List Numbered) → IsOrderly before → IsRun (told_from line before ls)
unfolding told_from
lines_are_run [] line before orderly = at_end line before orderly
lines_are_run (l ∷ ls) line before orderly =
    step line before (judged before l) (λ now. told_from (line + 1) now ls) orderly (judged_fits before l) (lines_are_run ls (line + 1))

nothing_read : IsOrderly []
unfolding jobs_in
nothing_read = record { head = tt; once = tt; ranges = tt; jobs = omega arith }

pub text_is_run : (text : List ℕ) → IsRun (told text)
unfolding told
text_is_run text = lines_are_run (lines text) 1 [] nothing_read
