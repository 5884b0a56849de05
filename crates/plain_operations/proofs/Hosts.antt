-- The trace of a host, cycle by cycle: how it goes on, and the sequences that it has sent.
use Rattle.std.proofs.Common.{◌≡◌, ℕ, zero, suc, Bool, true, false, cond, List, [], ◌∷◌, ◌++◌, Option, Some, None, refl, sym, ap, ◌∙◌, subst, reverse, append_assoc, length, eq-eqb}
use Rattle.std.specs.Prelude.{replicate}
use Rattle.std.proofs.lemmas.List.{reverse-append}
use Rattle.onfi_cycle.specs.declared.item.Item.{Item}
use Rattle.onfi_cycle.specs.declared.item.Kind.{Kind}
use Rattle.onfi_cycle.specs.declared.item.Kind.TheVariants.{Cmd, Adr, Din, Dout}
use Rattle.onfi_cycle.specs.Channel.{cycle}
use Rattle.micro_program.specs.Moves.{Move, Give, Take, and_then, gives}
use Rattle.micro_program.specs.Played.{Played, with_byte, answered}
use Rattle.trace_ops.specs.Operation.{one_more}
use Rattle.trace_ops.specs.Polling.{Sequence, Doing, Rests, Sends, Waits, Asks, Sees, by_address, by_cycle, doing_after, goes_on, doing_at_end, sent_in, sent_at, in_front, sequences_on, sequences_from}
use Rattle.trace_ops.proofs.Spans.{same_some}
use Rattle.plain_operations.specs.Lines.{AreBytes}
use Rattle.plain_operations.proofs.Texts.{by_addresses, counted}

none : {X : Type 0} {x : X} → None ≡ Some x → ⊥
none h = cc

-- ---- an item more at the end

doing_more : (ce : ℕ) (items : List Item) (i : Item) (d e : Doing) → doing_at_end ce items d ≡ Some e → doing_at_end ce (items ++ (i ∷ [])) d ≡ doing_after ce i e
doing_more ce [] i d e h = ap (λ (x : Doing). goes_on (doing_after ce i x) (doing_at_end ce [])) (same_some h) ∙ on (doing_after ce i e)
  where
    on : (x : Option Doing) → goes_on x (doing_at_end ce []) ≡ x
    on None = refl
    on (Some d) = refl
doing_more ce (k ∷ items) i d e h = at (doing_after ce k d) h (λ x h. doing_more ce items i x e h)
  where
    at : (x : Option Doing) → goes_on x (doing_at_end ce items) ≡ Some e → ((x : Doing) → doing_at_end ce items x ≡ Some e → doing_at_end ce (items ++ (i ∷ [])) x ≡ doing_after ce i e) →
        goes_on x (doing_at_end ce (items ++ (i ∷ []))) ≡ doing_after ce i e
    at None h rest = absurd (none h)
    at (Some x) h rest = rest x h

front_append : (x : Option Sequence) (works more : List Sequence) → in_front x (works ++ more) ≡ in_front x works ++ more
front_append None works more = refl
front_append (Some w) works more = refl

works_more : (ce : ℕ) (items : List Item) (i : Item) (d e : Doing) → doing_at_end ce items d ≡ Some e → sequences_from ce (items ++ (i ∷ [])) d ≡ sequences_from ce items d ++ in_front (sent_at ce i e) []
works_more ce [] i d e h = ap (λ (x : Doing). in_front (sent_at ce i x) (sequences_on (doing_after ce i x) (sequences_from ce []))) (same_some h) ∙ ap (in_front (sent_at ce i e)) (on (doing_after ce i e))
  where
    on : (x : Option Doing) → sequences_on x (sequences_from ce []) ≡ []
    on None = refl
    on (Some d) = refl
works_more ce (k ∷ items) i d e h =
    ap (in_front (sent_at ce k d)) (at (doing_after ce k d) h (λ x h. works_more ce items i x e h)) ∙ front_append (sent_at ce k d) (sequences_on (doing_after ce k d) (sequences_from ce items)) (in_front (sent_at ce i e) [])
  where
    at : (x : Option Doing) → goes_on x (doing_at_end ce items) ≡ Some e →
        ((x : Doing) → doing_at_end ce items x ≡ Some e → sequences_from ce (items ++ (i ∷ [])) x ≡ sequences_from ce items x ++ in_front (sent_at ce i e) []) →
        sequences_on x (sequences_from ce (items ++ (i ∷ []))) ≡ sequences_on x (sequences_from ce items) ++ in_front (sent_at ce i e) []
    at None h rest = absurd (none h)
    at (Some x) h rest = rest x h

-- ---- where a host is

-- after this past, with these sequences behind the first ones
pub record Has (ce : ℕ) (first : List Sequence) (past : List Item) (d : Doing) (works : List Sequence) : Type 0 where
  pub doing : doing_at_end ce (reverse past) Rests ≡ Some d
  pub begun : sequences_from ce (reverse past) Rests ≡ first ++ works

pub has_more : (ce : ℕ) (first : List Sequence) (past : List Item) (d next : Doing) (works : List Sequence) (i : Item) → Has ce first past d works → doing_after ce i d ≡ Some next →
    Has ce first (i ∷ past) next (works ++ in_front (sent_at ce i d) [])
has_more ce first past d next works i has step = record {
  doing = ap (λ (items : List Item). doing_at_end ce items Rests) (reverse-append (i ∷ []) past) ∙ doing_more ce (reverse past) i Rests d has.doing ∙ step;
  begun =
      ap (λ (items : List Item). sequences_from ce items Rests) (reverse-append (i ∷ []) past)
      ∙ works_more ce (reverse past) i Rests d has.doing ∙ ap (λ (ws : List Sequence). ws ++ in_front (sent_at ce i d) []) has.begun ∙ append_assoc first works (in_front (sent_at ce i d) []);
}

append_none : (works : List Sequence) → works ++ [] ≡ works
append_none [] = refl
append_none (w ∷ works) = ap (λ (ws : List Sequence). w ∷ ws) (append_none works)

-- a cycle of the host
pub has_cycle : (ce : ℕ) (first : List Sequence) (past : List Item) (d next : Doing) (works : List Sequence) (kind : Kind) (byte : ℕ) → Has ce first past d works → by_cycle d kind byte ≡ Some next →
    Has ce first (cycle ce kind byte ∷ past) next (works ++ in_front (sent_in d kind byte) [])
has_cycle ce first past d next works kind byte has step =
    subst (λ (x : Option Sequence). Has ce first (cycle ce kind byte ∷ past) next (works ++ in_front x []))
    (ap (λ (b : Bool). cond b (sent_in d kind byte) None) (eq-eqb ce ce refl))
    (has_more ce first past d next works (cycle ce kind byte) has (ap (λ (b : Bool). cond b (by_cycle d kind byte) (Some d)) (eq-eqb ce ce refl) ∙ step))

-- an item that isn't its own
pub has_other : (ce : ℕ) (first : List Sequence) (past : List Item) (d : Doing) (works : List Sequence) (i : Item) → Has ce first past d works → doing_after ce i d ≡ Some d → sent_at ce i d ≡ None → Has ce first (i ∷ past) d works
has_other ce first past d works i has step nothing =
    subst (λ (ws : List Sequence). Has ce first (i ∷ past) d ws) (ap (λ (x : Option Sequence). works ++ in_front x []) nothing ∙ append_none works) (has_more ce first past d d works i has step)

-- a cycle that ends no sequence
pub has_byte : (ce : ℕ) (first : List Sequence) (past : List Item) (d next : Doing) (works : List Sequence) (kind : Kind) (byte : ℕ) → Has ce first past d works → by_cycle d kind byte ≡ Some next → sent_in d kind byte ≡ None →
    Has ce first (cycle ce kind byte ∷ past) next works
has_byte ce first past d next works kind byte has step nothing =
    subst (λ (ws : List Sequence). Has ce first (cycle ce kind byte ∷ past) next ws) (ap (λ (x : Option Sequence). works ++ in_front x []) nothing ∙ append_none works)
    (has_cycle ce first past d next works kind byte has step)

-- ---- cycles of one kind

abbrev is_command : Kind → Bool
is_command Cmd = true
is_command Adr = false
is_command Din = false
is_command Dout = false

sent_none : (d : Doing) (kind : Kind) (byte : ℕ) → is_command kind ≡ false → sent_in d kind byte ≡ None
sent_none Rests kind byte h = refl
sent_none (Sends s) Cmd byte h = cc
sent_none (Sends s) Adr byte h = refl
sent_none (Sends s) Din byte h = refl
sent_none (Sends s) Dout byte h = refl
sent_none (Waits w) kind byte h = refl
sent_none (Asks w) kind byte h = refl
sent_none Sees kind byte h = refl

-- addresses
pub has_addresses : (ce : ℕ) (first works : List Sequence) (given bytes : List ℕ) (past : List Item) (p : Played) (d e : Doing) → Has ce first past d works → by_addresses d given ≡ Some e →
    answered ce (gives Adr given) bytes past ≡ Some p → Has ce first p.past e works
has_addresses ce first works [] [] past p d e has to h =
    subst (λ (x : Doing). Has ce first p.past x works) (same_some to) (subst (λ (x : Played). Has ce first x.past d works) (same_some h) has)
has_addresses ce first works [] (b ∷ bytes) past p d e has to h = absurd (none h)
has_addresses ce first works (byte ∷ given) bytes past p d e has to h = at (by_address d byte) refl to (λ x has' to'. has_addresses ce first works given bytes (cycle ce Adr byte ∷ past) p x e has' to' h)
  where
    at : (x : Option Doing) → by_address d byte ≡ x → goes_on x (λ e. by_addresses e given) ≡ Some e →
        ((x : Doing) → Has ce first (cycle ce Adr byte ∷ past) x works → by_addresses x given ≡ Some e → Has ce first p.past e works) → Has ce first p.past e works
    at None f to rest = absurd (none to)
    at (Some x) f to rest = rest x (has_byte ce first past d x works Adr byte has f (sent_none d Adr byte refl)) to

-- inputs
abbrev with_inputs : Sequence → ℕ → Sequence
with_inputs s n = record s { inputs = n }

pub has_inputs : (ce : ℕ) (first works : List Sequence) (given bytes : List ℕ) (past : List Item) (p : Played) (s : Sequence) → Has ce first past (Sends s) works →
    answered ce (gives Din given) bytes past ≡ Some p → Has ce first p.past (Sends (with_inputs s (counted (length given) s.inputs))) works
has_inputs ce first works [] [] past p s has h = subst (λ (x : Played). Has ce first x.past (Sends s) works) (same_some h) has
has_inputs ce first works [] (b ∷ bytes) past p s has h = absurd (none h)
has_inputs ce first works (byte ∷ given) bytes past p s has h =
    has_inputs ce first works given bytes (cycle ce Din byte ∷ past) p (with_inputs s (one_more s.inputs))
    (has_byte ce first past (Sends s) (Sends (with_inputs s (one_more s.inputs))) works Din byte has refl refl) h

pub record TookByte (ce : ℕ) (rest : List Move) (bytes : List ℕ) (past : List Item) (p : Played) : Type 0 where
  pub byte : ℕ
  pub more : List ℕ
  pub bytes_are : bytes ≡ byte ∷ more
  pub later : Played
  pub played : answered ce rest more (cycle ce Dout byte ∷ past) ≡ Some later
  pub is_past : p.past ≡ later.past
  pub is_bytes : p.bytes ≡ byte ∷ later.bytes

pub took : (ce : ℕ) (rest : List Move) (bytes : List ℕ) (past : List Item) (p : Played) → answered ce (Take ∷ rest) bytes past ≡ Some p → TookByte ce rest bytes past p
took ce rest [] past p e = absurd (none e)
took ce rest (byte ∷ more) past p e = at (answered ce rest more (cycle ce Dout byte ∷ past)) refl e
  where
    at : (x : Option Played) → answered ce rest more (cycle ce Dout byte ∷ past) ≡ x → and_then x (with_byte byte) ≡ Some p → TookByte ce rest (byte ∷ more) past p
    at None f e = absurd (none e)
    at (Some q) f e = record {
      byte = byte;
      more = more;
      bytes_are = refl;
      later = q;
      played = f;
      is_past = ap (λ (x : Played). x.past) (sym (same_some e));
      is_bytes = ap (λ (x : Played). x.bytes) (sym (same_some e));
    }

-- outputs of data
pub has_takes : (ce : ℕ) (first works : List Sequence) (len : ℕ) (bytes : List ℕ) (past : List Item) (p : Played) → Has ce first past Rests works → answered ce (replicate len Take) bytes past ≡ Some p → Has ce first p.past Rests works
has_takes ce first works zero [] past p has e = subst (λ (x : Played). Has ce first x.past Rests works) (same_some e) has
has_takes ce first works zero (b ∷ bytes) past p has e = absurd (none e)
has_takes ce first works (suc len) bytes past p has e =
    let t = took ce (replicate len Take) bytes past p e in
    subst (λ (x : List Item). Has ce first x Rests works) (sym t.is_past)
    (has_takes ce first works len t.more (cycle ce Dout t.byte ∷ past) t.later (has_byte ce first past Rests Rests works Dout t.byte has refl refl) t.played)

-- ---- bytes

-- what was there before moves are bytes, if all are after them
pub bytes_before : (ce : ℕ) (moved : List Move) (bytes : List ℕ) (past : List Item) (p : Played) → answered ce moved bytes past ≡ Some p → AreBytes p.past → AreBytes past
bytes_before ce [] [] past p e are = subst (λ (x : Played). AreBytes x.past) (sym (same_some e)) are
bytes_before ce [] (b ∷ bytes) past p e are = absurd (none e)
bytes_before ce (Give kind byte ∷ rest) bytes past p e are = (bytes_before ce rest bytes (cycle ce kind byte ∷ past) p e are).1
bytes_before ce (Take ∷ rest) bytes past p e are =
    let t = took ce rest bytes past p e in
    (bytes_before ce rest t.more (cycle ce Dout t.byte ∷ past) t.later t.played (subst AreBytes t.is_past are)).1
