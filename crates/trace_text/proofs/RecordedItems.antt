-- The items of a recorded text can be printed.
use Rattle.std.proofs.Common.{◌≡◌, ℕ, ◌+◌, Bool, true, false, eqb, cond, List, [], ◌∷◌, ◌++◌, Option, Some, None, Result, Ok, Err, refl, subst}
use Rattle.std.specs.Prelude.{IfOk}
use Rattle.std.specs.List.{All, AllByRecursion}
use Rattle.std.proofs.lemmas.List.Elements.{All-from_recursion}
use Rattle.onfi_cycle.specs.declared.item.Item.{Item}
use Rattle.nand_geometry.specs.declared.optional.Profile.{Profile}
use Rattle.trace_text.specs.declared.refusal.TraceFault.{TraceFault}
use Rattle.trace_text.specs.declared.refusal.TraceRefusal.{TraceRefusal}
use Rattle.trace_text.specs.declared.recorded_item.RecordedItem.{RecordedItem}
use Rattle.trace_text.specs.Line.{IsPrintable}
use Rattle.trace_text.specs.Reading.{item_of}
use Rattle.trace_text.specs.Recorded.{words, number, time_text, placed, behind_time, by_first, item_in, recorded_line, Told, after_line, at_end, told_from, told, collecting, recorded}
use Rattle.trace_text.proofs.Lines.{item_takes}

-- what a line has can be printed
Fine : Result (Option RecordedItem) TraceFault → Type 0
Fine r = (i : RecordedItem) → r ≡ Ok (Some i) → IsPrintable i.item

placed_fine : (p : Profile) (line : ℕ) (time : Option ℕ) (fields : List (List ℕ)) → Fine (placed line time (item_of p fields))
unfolding Fine
placed_fine p line time fields i h = at (item_of p fields) refl h
  where
    at : (r : Result Item TraceFault) → item_of p fields ≡ r → placed line time r ≡ Ok (Some i) → IsPrintable i.item
    at (Ok item) is g = let same : item ≡ i.item = cc in subst IsPrintable same (item_takes p fields item is).printable
    at (Err fault) is g = cc

behind_fine : (p : Profile) (line : ℕ) (time : Option ℕ) (fields : List (List ℕ)) → Fine (behind_time p line time fields)
unfolding Fine
behind_fine p line None fields i h = cc
behind_fine p line (Some time) fields i h = placed_fine p line (Some time) fields i h

first_fine : (p : Profile) (line : ℕ) (digits : Option (List ℕ)) (first : List ℕ) (fields : List (List ℕ)) → Fine (by_first p line digits first fields)
unfolding Fine
first_fine p line None first fields i h = placed_fine p line None (first ∷ fields) i h
first_fine p line (Some digits) first fields i h = behind_fine p line (number digits) fields i h

words_fine : (p : Profile) (line : ℕ) (fields : List (List ℕ)) → Fine (item_in p line fields)
unfolding Fine
words_fine p line [] i h = cc
words_fine p line (first ∷ fields) i h = first_fine p line (time_text first) first fields i h

line_fine : (p : Profile) (line : ℕ) (text : List ℕ) → Fine (recorded_line p line text)
unfolding Fine recorded_line
line_fine p line text i h = words_fine p line (words text) i h

-- what is told can be printed
abbrev IsFine : Told → Type 0
IsFine (Ok i) = IsPrintable i.item
IsFine (Err refusal) = Unit {0}

abbrev AreFine : List Told → Type 0
AreFine [] = Unit {0}
AreFine (t ∷ told) = IsFine t × AreFine told

after_fine : (line : ℕ) (r : Result (Option RecordedItem) TraceFault) (later : List Told) → Fine r → AreFine later → AreFine (after_line line r later)
unfolding Fine
after_fine line (Ok None) later here rest = rest
after_fine line (Ok (Some i)) later here rest = (here i refl, rest)
after_fine line (Err fault) later here rest = (tt, tt)

end_fine : (line : ℕ) (fields : List (List ℕ)) → AreFine (at_end line fields)
end_fine line [] = tt
end_fine line (first ∷ fields) = (tt, tt)

told_fine : (p : Profile) (line : ℕ) (front bytes : List ℕ) → AreFine (told_from p line front bytes)
told_fine p line front [] = end_fine line (words front)
told_fine p line front (b ∷ bytes) = at (eqb b 10) (told_fine p (line + 1) [] bytes) (told_fine p line (front ++ b ∷ []) bytes)
  where
    at : (c : Bool) → AreFine (told_from p (line + 1) [] bytes) → AreFine (told_from p line (front ++ b ∷ []) bytes)
        → AreFine (cond c (after_line line (recorded_line p line front) (told_from p (line + 1) [] bytes)) (told_from p line (front ++ b ∷ []) bytes))
    at true next same = after_fine line (recorded_line p line front) (told_from p (line + 1) [] bytes) (line_fine p line front) next
    at false next same = same

-- the items are those that are told
one_more : (items : List Item) (i : Item) → AllByRecursion IsPrintable items → IsPrintable i → AllByRecursion IsPrintable (items ++ i ∷ [])
one_more [] i rest here = (here, tt)
one_more (x ∷ items) i rest here = (rest.0, one_more items i rest.1 here)

collected_fine : (done : List Item) (ts : List Told) (items : List Item) → AllByRecursion IsPrintable done → AreFine ts → collecting done ts ≡ Ok items → AllByRecursion IsPrintable items
collected_fine done [] items rest fine h = let same : done ≡ items = cc in subst (AllByRecursion IsPrintable) same rest
collected_fine done (Ok i ∷ ts) items rest fine h = collected_fine (done ++ i.item ∷ []) ts items (one_more done i.item rest fine.0) fine.1 h
collected_fine done (Err refusal ∷ ts) items rest fine h = cc

recorded_printable : (p : Profile) (bytes : List ℕ) (items : List Item) → recorded p bytes ≡ Ok items → All IsPrintable items
recorded_printable p bytes items h = All-from_recursion IsPrintable items (collected_fine [] (told p bytes) items tt (told_fine p 1 [] bytes) h)

-- the same as a text is read
pub printable_read : (p : Profile) {X : Type 0} (view : X → List Item) (bs : List ℕ) (r : Result X TraceRefusal) → IfOk r (λ v. recorded p bs ≡ Ok (view v)) → IfOk r (λ v. All IsPrintable (view v))
printable_read p view bs (Ok v) h = recorded_printable p bs (view v) h
printable_read p view bs (Err e) h = tt
