-- A line that is judged by how far reading has come is a line in its place.
use Rattle.std.proofs.Common.{◌≡◌, ℕ, ◌+◌, Bool, true, false, ltb, List, [], ◌∷◌, ◌++◌, length, Option, Some, None, Result, Ok, Err, refl, sym, ap, ◌∙◌, length-append, arith}
use Rattle.std.specs.Prelude.{is_some, if◌then◌else◌}
use Rattle.std.specs.Map.{update}
use Rattle.std.specs.Str.{bytes_eq}
use Rattle.micro_asm.specs.declared.refusal.AsmFault.{AsmFault}
use Rattle.micro_asm.specs.declared.refusal.AsmFault.TheVariants.{LabelTwice, LabelAfterLastWord, TooManyWords, HeaderOutOfOrder}
use Rattle.micro_asm.specs.declared.refusal.AsmRefusal.{AsmRefusal}
use Rattle.micro_asm.specs.declared.refusal.AsmRefusal.TheVariants.{Fault}
use Rattle.micro_asm.specs.declared.heading.Heading.{Heading}
use Rattle.micro_asm.specs.declared.progress.Progress.{Progress}
use Rattle.micro_asm.specs.declared.statement.Setting.{Setting}
use Rattle.micro_asm.specs.Line.{◌>>=◌, Entry, Line, Nothing, Header, Label, Entered}
use Rattle.micro_asm.specs.Reading.{Seen, at_line, with_setting, with_heading, is_heading, placed, with_label, with_entry}
use Rattle.micro_asm.specs.Judged.{further, judged_setting, judged, progress, is_taken, kept_entries, kept, moved}

abbrev told : Result Seen AsmRefusal → Result Seen AsmRefusal
told r = r

abbrev as_progress : Progress → Progress
as_progress p = p

abbrev verdict : Result Progress AsmFault → Result Progress AsmFault
verdict r = r

-- what is kept once a line is judged
abbrev pub placed_by : Seen → Line → Result Progress AsmFault → Result Seen AsmRefusal
placed_by seen l judgement = at_line seen.line judgement >>= λ next. Ok (moved (kept seen l) next)

abbrev label_chain : Progress → Bool → Bool → Bool → Result Progress AsmFault
label_chain at a b c = if a then Err HeaderOutOfOrder else (if b then Err LabelTwice else (if c then verdict (Ok (further at at.heading at.words)) else Err LabelAfterLastWord))

abbrev word_chain : Progress → Bool → Bool → Result Progress AsmFault
word_chain at a b = if a then Err HeaderOutOfOrder else (if b then verdict (Ok (further at at.heading (at.words + 1))) else Err TooManyWords)

setting_as : (seen : Seen) (s : Setting) (o : Option Heading) → with_heading seen o ≡ placed_by seen (Header s) (judged_setting (progress seen) o)
setting_as seen s (Some h) = refl
setting_as seen s None = refl

label_as : (seen : Seen) (name : List ℕ) (a b c : Bool)
    → (if a then Err (Fault HeaderOutOfOrder seen.line) else (if b then Err (Fault LabelTwice seen.line) else (if c then told (Ok (record { line = seen.line + 1; heading = seen.heading; entries = seen.entries; labels = update bytes_eq seen.labels name (Some (length seen.entries)) })) else Err (Fault LabelAfterLastWord seen.line)))) ≡ placed_by seen (Label name) (label_chain (progress seen) a b c)
label_as seen name true b c = refl
label_as seen name false true c = refl
label_as seen name false false true = refl
label_as seen name false false false = refl

entry_as : (seen : Seen) (entry : Entry) (a b : Bool)
    → (if a then Err (Fault HeaderOutOfOrder seen.line) else (if b then told (Ok (record { line = seen.line + 1; heading = seen.heading; entries = seen.entries ++ (seen.line, entry) ∷ []; labels = seen.labels })) else Err (Fault TooManyWords seen.line))) ≡ placed_by seen (Entered entry) (word_chain (progress seen) a b)
entry_as seen entry true b = refl
entry_as seen entry false true = refl
entry_as seen entry false false = refl

pub placed_as : (last : ℕ) (seen : Seen) (l : Line) → placed last seen l ≡ placed_by seen l (judged last (progress seen) (is_taken seen l) l)
unfolding placed with_label with_entry judged
placed_as last seen Nothing = refl
placed_as last seen (Header s) = setting_as seen s (with_setting seen.heading s)
placed_as last seen (Label name) = label_as seen name (is_heading seen.heading) (is_some (seen.labels name)) (ltb seen.line last)
placed_as last seen (Entered entry) = entry_as seen entry (is_heading seen.heading) (ltb (length seen.entries) 1024)

judgement_is : (last : ℕ) (seen : Seen) (l : Line) (at : Progress) (taken : Bool) (j : Result Progress AsmFault) → j ≡ judged last at taken l → at ≡ progress seen → taken ≡ is_taken seen l → judged last (progress seen) (is_taken seen l) l ≡ j
judgement_is last seen l at taken j is at_is taken_is =
    ap (λ (p : Progress). judged last p (is_taken seen l) l) (sym at_is) ∙ (ap (λ (t : Bool). judged last at t l) (sym taken_is) ∙ sym is)

pub placed_ok : (last : ℕ) (seen k : Seen) (l : Line) (at next : Progress) (taken : Bool) → Ok next ≡ judged last at taken l → at ≡ progress seen → taken ≡ is_taken seen l → k ≡ kept seen l → placed last seen l ≡ Ok (moved k next)
placed_ok last seen k l at next taken is at_is taken_is k_is =
    placed_as last seen l ∙ (ap (placed_by seen l) (judgement_is last seen l at taken (Ok next) is at_is taken_is) ∙ ap (λ (s : Seen). told (Ok (moved s next))) (sym k_is))

pub placed_err : (last : ℕ) (seen : Seen) (l : Line) (at : Progress) (code : AsmFault) (taken : Bool) → Err code ≡ judged last at taken l → at ≡ progress seen → taken ≡ is_taken seen l → placed last seen l ≡ Err (Fault code seen.line)
placed_err last seen l at code taken is at_is taken_is =
    placed_as last seen l ∙ ap (placed_by seen l) (judgement_is last seen l at taken (Err code) is at_is taken_is)

-- ---- a line without a fault

-- a label without a fault isn't taken
chain_free : (at next : Progress) (a b c : Bool) → label_chain at a b c ≡ Ok next → label_chain at a false c ≡ Ok next
chain_free at next true b c is = absurd cc
chain_free at next false true c is = absurd cc
chain_free at next false false c is = is

pub judged_free : (last : ℕ) (at : Progress) (taken : Bool) (l : Line) (next : Progress) → judged last at taken l ≡ Ok next → judged last at false l ≡ Ok next
unfolding judged
judged_free last at taken Nothing next is = is
judged_free last at taken (Header s) next is = is
judged_free last at taken (Label name) next is = chain_free at next (is_heading at.heading) taken (ltb at.line last) is
judged_free last at taken (Entered entry) next is = is

chain_taken : (at next : Progress) (a b c : Bool) → label_chain at a b c ≡ Ok next → b ≡ false
chain_taken at next true b c is = absurd cc
chain_taken at next false true c is = absurd cc
chain_taken at next false false c is = refl

pub not_taken : (last : ℕ) (seen : Seen) (l : Line) (next : Progress) → judged last (progress seen) (is_taken seen l) l ≡ Ok next → is_taken seen l ≡ false
unfolding judged
not_taken last seen Nothing next is = refl
not_taken last seen (Header s) next is = refl
not_taken last seen (Label name) next is = chain_taken (progress seen) next (is_heading seen.heading) (is_some (seen.labels name)) (ltb seen.line last) is
not_taken last seen (Entered entry) next is = refl

-- how far reading has come after a line
pub record IsAfter (seen : Seen) (l : Line) (next : Progress) : Type 0 where
  pub line : next.line ≡ seen.line + 1
  pub words : next.words ≡ length (kept_entries seen l)

after_line : (seen : Seen) (l : Line) (h : Heading) (words : ℕ) (next : Progress) → verdict (Ok (further (progress seen) h words)) ≡ Ok next → words ≡ length (kept_entries seen l) → IsAfter seen l next
after_line seen l h words next is count =
    let same : further (progress seen) h words ≡ next = cc in
    record { line = sym (ap (λ (p : Progress). p.line) same); words = sym (ap (λ (p : Progress). p.words) same) ∙ count }

setting_after : (seen : Seen) (s : Setting) (o : Option Heading) (next : Progress) → judged_setting (progress seen) o ≡ Ok next → IsAfter seen (Header s) next
setting_after seen s (Some h) next is = after_line seen (Header s) h (length seen.entries) next is refl
setting_after seen s None next is = absurd cc

label_after : (seen : Seen) (name : List ℕ) (next : Progress) (a b c : Bool) → label_chain (progress seen) a b c ≡ Ok next → IsAfter seen (Label name) next
label_after seen name next true b c is = absurd cc
label_after seen name next false true c is = absurd cc
label_after seen name next false false true is = after_line seen (Label name) seen.heading (length seen.entries) next is refl
label_after seen name next false false false is = absurd cc

word_after : (seen : Seen) (entry : Entry) (next : Progress) (a b : Bool) → word_chain (progress seen) a b ≡ Ok next → IsAfter seen (Entered entry) next
word_after seen entry next true b is = absurd cc
word_after seen entry next false true is = after_line seen (Entered entry) seen.heading (length seen.entries + 1) next is (omega (arith, length-append seen.entries ((seen.line, entry) ∷ [])))
word_after seen entry next false false is = absurd cc

pub comes_after : (last : ℕ) (seen : Seen) (taken : Bool) (l : Line) (next : Progress) → judged last (progress seen) taken l ≡ Ok next → IsAfter seen l next
unfolding judged
comes_after last seen taken Nothing next is = after_line seen Nothing seen.heading (length seen.entries) next is refl
comes_after last seen taken (Header s) next is = setting_after seen s (with_setting seen.heading s) next is
comes_after last seen taken (Label name) next is = label_after seen name next (is_heading seen.heading) taken (ltb seen.line last) is
comes_after last seen taken (Entered entry) next is = word_after seen entry next (is_heading seen.heading) (ltb (length seen.entries) 1024) is

pub progress_is : (seen : Seen) (l : Line) (next : Progress) → IsAfter seen l next → next ≡ progress (moved (kept seen l) next)
progress_is seen l next b = ap (λ (words : ℕ). as_progress (record { line = next.line; heading = next.heading; words = words })) b.words
