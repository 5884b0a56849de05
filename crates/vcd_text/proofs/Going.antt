-- Reading on, word after word.
use Rattle.std.proofs.Common.{◌≡◌, ◌≤◌, ◌<◌, ℕ, suc, List, [], ◌++◌, length, Result, refl, ap, sym, ◌∙◌, subst, arith}
use Rattle.std.proofs.lemmas.List.{append-nil}
use Rattle.std.specs.Prelude.{Ok, Err}
use Rattle.vcd_text.specs.declared.fault.LineFault.{LineFault}
use Rattle.vcd_text.specs.declared.body.Body.{Body}
use Rattle.vcd_text.specs.declared.body.Progress.{Progress}
use Rattle.vcd_text.specs.declared.body.Progress.TheVariants.{Told, Quiet, Over}
use Rattle.vcd_text.specs.declared.words.Words.{Words}
use Rattle.vcd_text.specs.Words.{GoesOn, IsCut, words_left, words_from, lines_from}
use Rattle.vcd_text.specs.Body.{Widths, told_from}
use Rattle.vcd_text.specs.Shown.{IsProgress, IsCoded, Moves, place_of, standing_of, told_at, told_before, told_left}
use Rattle.vcd_text.proofs.Pieces.{joins}

-- how much is left to read; where reading stops, that is one less
abbrev pub left_to_read : Progress → ℕ → ℕ
left_to_read (Told e) n = n
left_to_read Quiet n = suc n
left_to_read Over n = n

pub progress_on : (widths : Widths) (old mid new : Body) (r : Result Progress LineFault) → IsProgress widths old (Ok Quiet) mid → IsProgress widths mid r new → IsProgress widths old r new
progress_on widths old mid new (Ok (Told e)) first second = λ later. first later ∙ second later
progress_on widths old mid new (Ok Quiet) first second = λ later. first later ∙ second later
progress_on widths old mid new (Ok Over) first second = (λ later. first later ∙ second.0 later, second.1)
progress_on widths old mid new (Err f) first second = λ later. first later ∙ second later

pub goes_on : (old mid new : Words) → GoesOn old mid → GoesOn mid new → GoesOn old new
goes_on old mid new first second = record {
  lines = second.lines ∙ first.lines;
  cut = λ cut. second.cut (first.cut cut);
  room = omega (arith, first.room, second.room);
  shorter = omega (arith, first.shorter, second.shorter);
}

-- by what is told something is read
abbrev pub IsShorter : Progress → (old new : ℕ) → Type 0
IsShorter (Told e) old new = new < old
IsShorter Quiet old new = new ≤ old
IsShorter Over old new = new ≤ old

pub shorter_on : (old mid new : Body) (p : Progress) → length mid.words.rest.now ≤ length old.words.rest.now → Moves mid (Ok p) new → IsShorter p (length old.words.rest.now) (length new.words.rest.now)
shorter_on old mid new (Told e) first second = omega (arith, first, second.1)
shorter_on old mid new Quiet first second = omega (arith, first, second.1)
shorter_on old mid new Over first second = omega (arith, first, second.shorter)

stays : (w : Words) → GoesOn w w
stays w = record { lines = refl; cut = λ cut. cut; room = omega arith; shorter = omega arith }

-- after the bits of a vector, whether its code was read or not
pub coded_moves : (widths : Widths) (old new : Body) (ws : Words) (bits : List ℕ) (r : Result Progress LineFault) → GoesOn old.words ws → length ws.rest.now < length old.words.rest.now
    → IsCoded widths old ws bits r new → Moves old r new
coded_moves widths old new ws bits (Ok (Told e)) first less coded = (goes_on old.words ws new.words first coded.1, omega (arith, less, coded.2))
coded_moves widths old new ws bits (Ok Quiet) first less coded = absurd coded
coded_moves widths old new ws bits (Ok Over) first less coded = subst (λ (b : Body). GoesOn old.words b.words) (sym coded.1) (stays old.words)
coded_moves widths old new ws bits (Err f) first less coded = subst (λ (b : Body). GoesOn old.words b.words) (sym coded.1) (stays old.words)

pub before_none : (widths : Widths) (b : Body) → told_before widths b [] ≡ told_left widths b
before_none widths b = ap (told_from widths (place_of b) b.line) (append-nil (words_left b.words))

-- what a piece that ends in white space tells, with a text after it
pub told_joins : (widths : Widths) (b : Body) (more : List ℕ) → IsCut b.words.rest.now
    → told_at widths (standing_of b) (b.words.rest.now ++ more) ≡ told_before widths b (words_from (lines_from b.words.line b.words.rest.now) [] more)
told_joins widths b more cut = ap (told_from widths (place_of b) b.line) (joins b.words.line b.words.rest.now more cut)
