-- How the words of a variable of one bit are read.
use Rattle.std.specs.Prelude.{codes, ok_or, if◌then◌else◌}
use Rattle.std.specs.Ordering.{nat_cmp}
use Rattle.std.specs.BTreeMap.{insert_entry}
use Rattle.std.proofs.Common.{◌≡◌, ℕ, ◌+◌, ◌==◌, Bool, false, cond, List, [], ◌∷◌, ◌++◌, Option, Some, None, Result, Ok, refl, ap, ◌∙◌, arith}
use Rattle.std.proofs.lemmas.Bool.{and_right}
use Rattle.vcd_text.specs.declared.fault.DumpFault.{DumpFault}
use Rattle.vcd_text.specs.declared.fault.DumpFault.TheVariants.{UnknownSection}
use Rattle.vcd_text.specs.declared.section.Keyword.{Keyword}
use Rattle.vcd_text.specs.declared.section.Keyword.TheVariants as keyword
use Rattle.vcd_text.specs.Tokens.{◌>>=◌, is_named}
use Rattle.vcd_text.specs.Body.{width_of}
use Rattle.vcd_text.specs.Words.{Word}
use Rattle.vcd_text.specs.Header.{Header, Variable, Section, begun, with_word, keyword_of, opened, closed, variable_of, widened, ends_header, at_line, reading}

-- ---- 1. the words of a section

word_begins : (h : Header) (k : Keyword) (l : ℕ) (w : Word) (ws : List Word) → keyword_of w.text ≡ Some k → reading h None l (w ∷ ws) ≡ reading h (Some (begun k)) w.line ws
word_begins h k l w ws e = ap (λ (o : Option Keyword). at_line w.line (ok_or o UnknownSection >>= λ k. Ok (begun k)) >>= λ t. reading h (Some t) w.line ws) e

word_into : (h : Header) (s : Section) (l : ℕ) (w : Word) (ws : List Word) → is_named w.text (codes "$end") ≡ false → reading h (Some s) l (w ∷ ws) ≡ reading h (Some (with_word s w.text)) w.line ws
word_into h s l w ws e = ap (λ (x : Bool). elim (cond x (Some s) None) [
  | None ↦ (at_line w.line (opened (Some s) w.text) >>= λ t. reading h (Some t) w.line ws)
  | Some t ↦ (at_line w.line (closed h t) >>= λ h. if ends_header t.keyword then Ok (record { header = h; line = w.line; rest = ws }) else reading h None w.line ws)
]) e

-- ---- 2. a variable

abbrev pub word_at : (line : ℕ) (text : List ℕ) → Word
word_at line text = record { line = line; text = text }

abbrev pub signal : (code : ℕ) → List ℕ → Variable
signal code name = record { name = name; range = []; width = 1; code = code }

abbrev with_two : Section
with_two = record { keyword = keyword.Variable; count = 2; first = codes "wire"; second = codes "1"; third = []; fourth = []; fifth = [] }

abbrev with_all : (code : ℕ) (name : List ℕ) → Section
with_all code name = record { keyword = keyword.Variable; count = 4; first = codes "wire"; second = codes "1"; third = code ∷ []; fourth = name; fifth = [] }

-- a header with one more
abbrev pub with_signal : Header → (code : ℕ) → List ℕ → Header
with_signal h code name = record { variables = h.variables ++ (signal code name ∷ []); widths = insert_entry nat_cmp h.widths code 1 }

variable_is : (code : ℕ) (name : List ℕ) → variable_of (with_all code name) ≡ Ok (signal code name)
variable_is code name = first ∙ ap (λ (k : ℕ). Ok (signal k name)) same
  where
    same : 0 + code ≡ code
    same = omega arith

    first : variable_of (with_all code name) ≡ Ok (signal (0 + code) name)
    first = refl

closes : (h : Header) (code : ℕ) (name : List ℕ) → width_of h.widths code ≡ None → closed h (with_all code name) ≡ Ok (with_signal h code name)
closes h code name new =
    ap (λ (v : Result Variable DumpFault). v >>= λ v. widened (width_of h.widths v.code) h.widths v.code v.width >>= λ widths. Ok (record { variables = h.variables ++ (v ∷ []); widths = widths })) (variable_is code name)
    ∙ ap (λ (o : Option ℕ). widened o h.widths code 1 >>= λ widths. Ok (record { variables = h.variables ++ (signal code name ∷ []); widths = widths })) new

section_ends : (h later : Header) (s : Section) (l line : ℕ) (ws : List Word) → closed h s ≡ Ok later → s.keyword ≡ keyword.Variable → reading h (Some s) l (word_at line (codes "$end") ∷ ws) ≡ reading later None line ws
section_ends h later s l line ws is_closed k =
    ap (λ (r : Result Header DumpFault). at_line line r >>= λ h. if ends_header s.keyword then Ok (record { header = h; line = line; rest = ws }) else reading h None line ws) is_closed
    ∙ ap (λ (k : Keyword). if ends_header k then Ok (record { header = later; line = line; rest = ws }) else reading later None line ws) k

-- the words of one
abbrev pub words_of : (line code : ℕ) → List ℕ → List Word → List Word
words_of line code name ws =
    word_at line (codes "$var") ∷ (word_at line (codes "wire") ∷ (word_at line (codes "1") ∷ (word_at line (code ∷ []) ∷ (word_at line name ∷ (word_at line (codes "$end") ∷ ws)))))

no_end : (code : ℕ) → is_named (code ∷ []) (codes "$end") ≡ false
no_end code = and_right (code == 36) false refl

pub section_read : (h : Header) (l line code : ℕ) (name : List ℕ) (ws : List Word) → is_named name (codes "$end") ≡ false → width_of h.widths code ≡ None →
    reading h None l (words_of line code name ws) ≡ reading (with_signal h code name) None line ws
section_read h l line code name ws other new =
    word_begins h keyword.Variable l (word_at line (codes "$var")) (word_at line (codes "wire") ∷ (word_at line (codes "1") ∷ (word_at line (code ∷ []) ∷ (word_at line name ∷ (word_at line (codes "$end") ∷ ws))))) refl
    ∙ word_into h (begun keyword.Variable) line (word_at line (codes "wire")) (word_at line (codes "1") ∷ (word_at line (code ∷ []) ∷ (word_at line name ∷ (word_at line (codes "$end") ∷ ws)))) refl
    ∙ word_into h (with_word (begun keyword.Variable) (codes "wire")) line (word_at line (codes "1")) (word_at line (code ∷ []) ∷ (word_at line name ∷ (word_at line (codes "$end") ∷ ws))) refl
    ∙ word_into h with_two line (word_at line (code ∷ [])) (word_at line name ∷ (word_at line (codes "$end") ∷ ws)) (no_end code)
    ∙ word_into h (with_word with_two (code ∷ [])) line (word_at line name) (word_at line (codes "$end") ∷ ws) other
    ∙ section_ends h (with_signal h code name) (with_all code name) line line ws (closes h code name new) refl
