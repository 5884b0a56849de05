-- The header of a text that comes in pieces.
use Rattle.std.proofs.Common.{◌≡◌, ℕ, true, false, Bool, List, [], ◌∷◌, ◌++◌, Option, Some, None, Result, if◌then◌else◌, refl, ap, subst, ◌∙◌, cond}
use Rattle.std.specs.Prelude.{Ok, Err}
use Rattle.vcd_text.specs.declared.fault.LineFault.{LineFault}
use Rattle.vcd_text.specs.Tokens.{◌>>=◌}
use Rattle.vcd_text.specs.Words.{Word, words, words_from, lines_from, IsCut}
use Rattle.vcd_text.specs.Header.{Header, Section, Read, at_line, opened, closed, ends, ends_header, unended, is_unended, reading, blank, header}
use Rattle.vcd_text.proofs.Pieces.{joins}

-- what is read, with more words after it
abbrev pub with_more : Read → List Word → Read
with_more r more = record { header = r.header; line = r.line; rest = r.rest ++ more }

same_read : (a r : Read) → ◌≡◌ {A = Result Read LineFault} (Ok a) (Ok r) → a ≡ r
same_read a r e = cc

same_fault : (a f : LineFault) → ◌≡◌ {A = Result Read LineFault} (Err a) (Err f) → a ≡ f
same_fault a f e = cc

-- words that have a header have it with more words after them
reading_more : (h : Header) (s : Option Section) (line : ℕ) (ws more : List Word) (r : Read) → reading h s line ws ≡ Ok r → reading h s line (ws ++ more) ≡ Ok (with_more r more)
reading_more h s line [] more r e = absurd cc
reading_more h s line (w ∷ ws) more r e = at (ends s w.text) e (λ h s line. reading_more h s line ws more r)
  where
    open_with : (x : Result Section LineFault) → (x >>= λ t. reading h (Some t) w.line ws) ≡ Ok r
        → ((h : Header) (s : Option Section) (line : ℕ) → reading h s line ws ≡ Ok r → reading h s line (ws ++ more) ≡ Ok (with_more r more))
        → (x >>= λ t. reading h (Some t) w.line (ws ++ more)) ≡ Ok (with_more r more)
    open_with (Ok t) g next = next h (Some t) w.line g
    open_with (Err f) g next = absurd cc

    end_with : (b : Bool) (h : Header) → ◌≡◌ {A = Result Read LineFault} (cond b (Ok (record { header = h; line = w.line; rest = ws })) (reading h None w.line ws)) (Ok r)
        → ((h : Header) (s : Option Section) (line : ℕ) → reading h s line ws ≡ Ok r → reading h s line (ws ++ more) ≡ Ok (with_more r more))
        → ◌≡◌ {A = Result Read LineFault} (cond b (Ok (record { header = h; line = w.line; rest = ws ++ more })) (reading h None w.line (ws ++ more))) (Ok (with_more r more))
    end_with true h g next = ap (λ a. Ok (with_more a more)) (same_read (record { header = h; line = w.line; rest = ws }) r g)
    end_with false h g next = next h None w.line g

    close_with : (x : Result Header LineFault) (t : Section) → (x >>= λ h. if ends_header t.keyword then Ok (record { header = h; line = w.line; rest = ws }) else reading h None w.line ws) ≡ Ok r
        → ((h : Header) (s : Option Section) (line : ℕ) → reading h s line ws ≡ Ok r → reading h s line (ws ++ more) ≡ Ok (with_more r more))
        → (x >>= λ h. if ends_header t.keyword then Ok (record { header = h; line = w.line; rest = ws ++ more }) else reading h None w.line (ws ++ more)) ≡ Ok (with_more r more)
    close_with (Ok h) t g next = end_with (ends_header t.keyword) h g next
    close_with (Err f) t g next = absurd cc

    at : (o : Option Section) → ◌≡◌ {A = Result Read LineFault} (elim o [
      | None ↦ (at_line w.line (opened s w.text) >>= λ t. reading h (Some t) w.line ws)
      | Some t ↦ (at_line w.line (closed h t) >>= λ h. if ends_header t.keyword then Ok (record { header = h; line = w.line; rest = ws }) else reading h None w.line ws)
    ]) (Ok r)
        → ((h : Header) (s : Option Section) (line : ℕ) → reading h s line ws ≡ Ok r → reading h s line (ws ++ more) ≡ Ok (with_more r more))
        → ◌≡◌ {A = Result Read LineFault} (elim o [
          | None ↦ (at_line w.line (opened s w.text) >>= λ t. reading h (Some t) w.line (ws ++ more))
          | Some t ↦ (at_line w.line (closed h t) >>= λ h. if ends_header t.keyword then Ok (record { header = h; line = w.line; rest = ws ++ more }) else reading h None w.line (ws ++ more))
        ]) (Ok (with_more r more))
    at None g next = open_with (at_line w.line (opened s w.text)) g next
    at (Some t) g next = close_with (at_line w.line (closed h t)) t g next

unended_is : (s : Option Section) → is_unended (unended s) ≡ true
unended_is None = refl
unended_is (Some s) = refl

end_is_unended : (s : Option Section) (line : ℕ) (f : LineFault) → at_line {A = Read} line (Err (unended s)) ≡ Err f → is_unended f.fault ≡ true
end_is_unended s line f e = let same : unended s ≡ f.fault = ap (λ (f : LineFault). f.fault) (same_fault (record { fault = unended s; line = line }) f e) in
    subst (λ u. is_unended u ≡ true) same (unended_is s)

-- words that have a fault have it with more words after them, but where they only end too early
reading_fails : (h : Header) (s : Option Section) (line : ℕ) (ws more : List Word) (f : LineFault) → is_unended f.fault ≡ false → reading h s line ws ≡ Err f → reading h s line (ws ++ more) ≡ Err f
reading_fails h s line [] more f ended e = let unended : is_unended f.fault ≡ true = end_is_unended s line f e in absurd cc
reading_fails h s line (w ∷ ws) more f ended e = at (ends s w.text) e (λ h s line. reading_fails h s line ws more f ended)
  where
    open_with : (x : Result Section LineFault) → (x >>= λ t. reading h (Some t) w.line ws) ≡ Err f
        → ((h : Header) (s : Option Section) (line : ℕ) → reading h s line ws ≡ Err f → reading h s line (ws ++ more) ≡ Err f)
        → (x >>= λ t. reading h (Some t) w.line (ws ++ more)) ≡ Err f
    open_with (Ok t) g next = next h (Some t) w.line g
    open_with (Err f) g next = g

    end_with : (b : Bool) (h : Header) → ◌≡◌ {A = Result Read LineFault} (cond b (Ok (record { header = h; line = w.line; rest = ws })) (reading h None w.line ws)) (Err f)
        → ((h : Header) (s : Option Section) (line : ℕ) → reading h s line ws ≡ Err f → reading h s line (ws ++ more) ≡ Err f)
        → ◌≡◌ {A = Result Read LineFault} (cond b (Ok (record { header = h; line = w.line; rest = ws ++ more })) (reading h None w.line (ws ++ more))) (Err f)
    end_with true h g next = absurd cc
    end_with false h g next = next h None w.line g

    close_with : (x : Result Header LineFault) (t : Section) → (x >>= λ h. if ends_header t.keyword then Ok (record { header = h; line = w.line; rest = ws }) else reading h None w.line ws) ≡ Err f
        → ((h : Header) (s : Option Section) (line : ℕ) → reading h s line ws ≡ Err f → reading h s line (ws ++ more) ≡ Err f)
        → (x >>= λ h. if ends_header t.keyword then Ok (record { header = h; line = w.line; rest = ws ++ more }) else reading h None w.line (ws ++ more)) ≡ Err f
    close_with (Ok h) t g next = end_with (ends_header t.keyword) h g next
    close_with (Err f) t g next = g

    at : (o : Option Section) → ◌≡◌ {A = Result Read LineFault} (elim o [
      | None ↦ (at_line w.line (opened s w.text) >>= λ t. reading h (Some t) w.line ws)
      | Some t ↦ (at_line w.line (closed h t) >>= λ h. if ends_header t.keyword then Ok (record { header = h; line = w.line; rest = ws }) else reading h None w.line ws)
    ]) (Err f)
        → ((h : Header) (s : Option Section) (line : ℕ) → reading h s line ws ≡ Err f → reading h s line (ws ++ more) ≡ Err f)
        → ◌≡◌ {A = Result Read LineFault} (elim o [
          | None ↦ (at_line w.line (opened s w.text) >>= λ t. reading h (Some t) w.line (ws ++ more))
          | Some t ↦ (at_line w.line (closed h t) >>= λ h. if ends_header t.keyword then Ok (record { header = h; line = w.line; rest = ws ++ more }) else reading h None w.line (ws ++ more))
        ]) (Err f)
    at None g next = open_with (at_line w.line (opened s w.text)) g next
    at (Some t) g next = close_with (at_line w.line (closed h t)) t g next

-- the header of a piece that ends in white space is that of the whole text
pub header_joins : (text more : List ℕ) (r : Read) → IsCut text → header text ≡ Ok r → header (text ++ more) ≡ Ok (with_more r (words_from (lines_from 1 text) [] more))
header_joins text more r cut e =
    ap (reading blank None 1) (joins 1 text more cut) ∙ reading_more blank None 1 (words text) (words_from (lines_from 1 text) [] more) r e

-- and so is its fault, but where the piece only ends too early
pub header_fails : (text more : List ℕ) (f : LineFault) → IsCut text → is_unended f.fault ≡ false → header text ≡ Err f → header (text ++ more) ≡ Err f
header_fails text more f cut ended e =
    ap (reading blank None 1) (joins 1 text more cut) ∙ reading_fails blank None 1 (words text) (words_from (lines_from 1 text) [] more) f ended e
