-- What programs and erases leave of a die's rows.
use Rattle.std.proofs.Common.{◌≡◌, ℕ, zero, suc, ◌<◌, ◌≤◌, Bool, true, false, ◌||◌, cond, List, [], ◌∷◌, Option, Some, None, length, refl, sym, ap, ◌∙◌, arith, get_or, drop, take, ◌-◌}
use Rattle.std.specs.List.{slice_get}
use Rattle.std.specs.Option.{is_some}
use Rattle.nand_geometry.specs.declared.parts.Parts.{Parts}
use Rattle.nand_geometry.specs.Limits.{page_len}
use Rattle.onfi_cycle.specs.declared.page_address.PageAddress.{PageAddress}
use Rattle.onfi_cycle.specs.declared.queued.Queued.{Queued}
use Rattle.onfi_cycle.specs.declared.queued.Queued.TheVariants.{Erase, Program, Read as QueuedRead}
use Rattle.onfi_cycle.specs.Content.{and_bytes, same_page}
use Rattle.die_model.specs.Pages.{kept, programmed}
use Rattle.die_model.specs.Die.{HasRows, AreKept, are_erases, are_programs}
use Rattle.die_model.proofs.Kept.{Entries}

and_length : (xs ys : List ℕ) → length ys ≡ length xs → length (and_bytes xs ys) ≡ length xs
and_length [] ys h = refl
and_length (x ∷ xs) [] h = absurd (omega (arith, h))
and_length (x ∷ xs) (y ∷ ys) h = let l = and_length xs ys (omega (arith, h)) in omega (arith, l)

-- what a programmed page's row keeps
programs_row : (b : Bool) (bytes : List ℕ) (o q : Option (List ℕ)) → q ≡ cond b (programmed bytes o) o → is_some q ≡ is_some o
programs_row true bytes None q h = ap is_some h
programs_row true bytes (Some x) q h = ap is_some h
programs_row false bytes o q h = ap is_some h

programs_length : (b : Bool) (bytes : List ℕ) (n : ℕ) (o : Option (List ℕ)) → length bytes ≡ n → ((x : List ℕ) → o ≡ Some x → length x ≡ n) → (x : List ℕ) → cond b (programmed bytes o) o ≡ Some x → length x ≡ n
programs_length true bytes n None same f x h = cc
programs_length true bytes n (Some y) same f x h =
    let l : length y ≡ n = f y refl in
    let e : and_bytes y bytes ≡ x = cc in
    sym (ap (λ (z : List ℕ). length z) e) ∙ (and_length y bytes (same ∙ sym l) ∙ l)
programs_length false bytes n o same f x h = f x h

none_is : {X : Type 0} (o : Option X) → is_some o ≡ false → o ≡ None
none_is None h = refl
none_is (Some x) h = cc

pub program_rows : (g : Parts) (pages new : Entries) (registers : List (List ℕ)) (at : PageAddress) (bytes : List ℕ) → HasRows g pages registers → length bytes ≡ page_len g → ((p : PageAddress) → kept new p ≡ cond (same_page p at) (programmed bytes (kept pages p)) (kept pages p)) → HasRows g new registers
program_rows g pages new registers at bytes h same f =
    record {
      inside = λ p out. none_is (kept new p) (programs_row (same_page p at) bytes (kept pages p) (kept new p) (f p) ∙ ap is_some (h.inside p out));
      lengths = λ p x is. programs_length (same_page p at) bytes (page_len g) (kept pages p) same (h.lengths p) x (sym (f p) ∙ is);
      count = h.count;
      widths = h.widths;
    }

pub program_still : (pages new : Entries) (at : PageAddress) (bytes : List ℕ) → ((p : PageAddress) → kept new p ≡ cond (same_page p at) (programmed bytes (kept pages p)) (kept pages p)) → (queue : List Queued) → AreKept pages queue → AreKept new queue
program_still pages new at bytes f [] h = tt
program_still pages new at bytes f (Erase q ∷ queue) h = program_still pages new at bytes f queue h
program_still pages new at bytes f (QueuedRead q ∷ queue) h = program_still pages new at bytes f queue h
program_still pages new at bytes f (Program q ∷ queue) h =
    (programs_row (same_page q at) bytes (kept pages q) (kept new q) (f q) ∙ h.0, program_still pages new at bytes f queue h.1)

pub width_at : (registers : List (List ℕ)) (k n : ℕ) (x : List ℕ) → x ≡ get_or registers k x → k < length registers → ((j : ℕ) (bytes : List ℕ) → slice_get registers j ≡ Some bytes → length bytes ≡ n) → length x ≡ n
width_at registers k n x is low f = f k x (found registers k is low)
  where
    found : (rs : List (List ℕ)) (j : ℕ) → x ≡ get_or rs j x → j < length rs → slice_get rs j ≡ Some x
    found [] j e h = absurd (omega (arith, h))
    found (r ∷ rs) zero e h = ap (λ (y : List ℕ). Some y) (sym e)
    found (r ∷ rs) (suc j) e h = found rs j e (omega (arith, h))

not_both : (a b : Bool) → a ≡ false → (a || b) ≡ true → b ≡ true
not_both true b h k = cc
not_both false b h k = k

take_whole : (rows : List Queued) (n : ℕ) → n ≡ length rows → take n rows ≡ rows
take_whole [] zero h = refl
take_whole [] (suc n) h = refl
take_whole (r ∷ rows) zero h = absurd (omega (arith, h))
take_whole (r ∷ rows) (suc n) h = ap (λ (t : List Queued). r ∷ t) (take_whole rows n (omega (arith, h)))

-- after the rest of a list its first row is still in place
pub first_there : (pages new : Entries) (rows : List Queued) (d : Queued) → 1 ≤ length rows → AreKept pages rows → are_erases rows || are_programs rows ≡ true → (are_programs (take (length rows - 1) (drop 1 rows)) ≡ true → (queue : List Queued) → AreKept pages queue → AreKept new queue) → AreKept new (get_or rows 0 d ∷ [])
first_there pages new [] d some h alike f = absurd (omega (arith, some))
first_there pages new (Erase q ∷ rows) d some h alike f = tt
first_there pages new (QueuedRead q ∷ rows) d some h alike f = tt
first_there pages new (Program q ∷ rows) d some h alike f = f (ap are_programs (take_whole rows (length (Program q ∷ rows) - 1) (omega arith)) ∙ alike) (Program q ∷ []) (h.0, tt)
