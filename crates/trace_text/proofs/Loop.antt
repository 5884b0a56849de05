-- Reading lines one after the other, as a loop does.
use Rattle.std.proofs.Common.{◌≡◌, ℕ, ◌+◌, List, [], ◌∷◌, ◌++◌, Result, Ok, Err, refl, sym, ap, ◌∙◌, append_assoc}
use Rattle.std.proofs.lemmas.List.{append-nil}
use Rattle.onfi_cycle.specs.declared.item.Item.{Item}
use Rattle.nand_geometry.specs.declared.optional.Profile.{Profile}
use Rattle.trace_text.specs.declared.refusal.TraceFault.{TraceFault}
use Rattle.trace_text.specs.declared.refusal.TraceRefusal.{TraceRefusal}
use Rattle.trace_text.specs.declared.refusal.TraceRefusal.TheVariants.{Fault}
use Rattle.trace_text.specs.Reading.{◌>>=◌, reading_from, reading, BeginsWith, HasFault}

-- what was read before, and what is still read
abbrev pub with_front : List Item → Result (List Item) TraceRefusal → Result (List Item) TraceRefusal
with_front front read = read >>= λ items. Ok (front ++ items)

-- the lines before this one are read, and the rest of the text begins with it
pub record IsSoFar (p : Profile) (line : ℕ) (rest whole : List ℕ) (front : List Item) : Type 0 where
  pub so_far : with_front front (reading_from p line [] rest) ≡ reading p whole

empty_front : (read : Result (List Item) TraceRefusal) → with_front [] read ≡ read
empty_front (Ok items) = refl
empty_front (Err e) = refl

regroup : (front : List Item) (item : Item) (read : Result (List Item) TraceRefusal) → with_front front (read >>= λ items. Ok (item ∷ items)) ≡ with_front (front ++ item ∷ []) read
regroup front item (Ok items) = ap (λ (xs : List Item). Ok xs) (sym (append_assoc front (item ∷ []) items))
regroup front item (Err e) = refl

pub starts : (p : Profile) (whole : List ℕ) → IsSoFar p 1 whole whole []
starts p whole = record { so_far = empty_front (reading_from p 1 [] whole) }

pub goes_on : (p : Profile) (line : ℕ) (rest whole after : List ℕ) (front : List Item) (item : Item) → BeginsWith p rest item after → IsSoFar p line rest whole front → IsSoFar p (line + 1) after whole (front ++ item ∷ [])
goes_on p line rest whole after front item first before =
    let one : with_front front (reading_from p line [] rest) ≡ with_front (front ++ item ∷ []) (reading_from p (line + 1) [] after) = ap (with_front front) (first.read line) ∙ regroup front item (reading_from p (line + 1) [] after) in
    record { so_far = sym one ∙ before.so_far }

pub ends : (p : Profile) (line : ℕ) (rest whole : List ℕ) (front : List Item) (code : TraceFault) → HasFault p rest code → IsSoFar p line rest whole front → reading p whole ≡ Err (Fault code line)
ends p line rest whole front code fault before = sym before.so_far ∙ ap (with_front front) (fault.read line)

pub is_done : (p : Profile) (line : ℕ) (rest whole : List ℕ) (front : List Item) → rest ≡ [] → IsSoFar p line rest whole front → reading p whole ≡ Ok front
unfolding reading_from
is_done p line rest whole front empty before =
    let none : (reading_from p) line [] rest ≡ Ok [] = ap (reading_from p line []) empty in
    sym before.so_far ∙ ap (with_front front) none ∙ ap (λ (xs : List Item). Ok xs) (append-nil front)
