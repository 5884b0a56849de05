-- Bytes that are written at a place of a room, and the frames that they are.
use Rattle.std.proofs.Common.{◌≡◌, ℕ, ◌+◌, ◌≤◌, List, [], ◌∷◌, ◌++◌, length, take, refl, sym, ap, ◌∙◌, append-nil, arith}
use Rattle.std.proofs.Math.Seq.{take-append-add}
use Rattle.std.proofs.lemmas.List.{length-append, take-take, take_at, length-take-le, take-append-le}
use borrow.Rule.Slice.PartMut.{put_mid, post_of}
use Rattle.trace_wave.specs.Changes.{time_line, at_time}
use Rattle.trace_wave.proofs.Lists.{behind}

-- what stands in front of a place stays where something is written from there on
pub kept_below : (old new x : List ℕ) (place end : ℕ) → place ≤ length old → place ≤ end → take end new ≡ take place old ++ x → take place new ≡ take place old
kept_below old new x place end there less e =
    sym (take-take place end new less) ∙ ap (λ (xs : List ℕ). take place xs) e ∙ take_at (take place old) x place (length-take-le place old there)

empty : (xs : List ℕ) → length xs ≡ 0 → xs ≡ []
empty [] e = refl
empty (x ∷ xs) e = cc

-- how long what is written is
written_len : (mid new x : List ℕ) (start end : ℕ) → start ≤ length mid → end ≤ length new → take end new ≡ take start mid ++ x → end ≡ start + length x
written_len mid new x start end there here e =
    sym (length-take-le end new here) ∙ ap (λ (xs : List ℕ). length xs) e ∙ length-append (take start mid) x ∙ ap (λ n. n + length x) (length-take-le start mid there)

-- a frame in which nothing is written isn't there
pub frame_empty : (old mid new x : List ℕ) (place start end time : ℕ) → place ≤ length old → start ≤ length mid → end ≤ length new → place ≤ start
    → take start mid ≡ take place old ++ time_line time → take end new ≡ take start mid ++ x → end ≡ start
    → take place new ≡ take place old ++ at_time time x
frame_empty old mid new x place start end time there then here less timed drawn same =
    let none : x ≡ [] = empty x (omega (arith, written_len mid new x start end then here drawn, same)) in
    let up : start ≤ end = omega (arith, same) in
    let kept = kept_below mid new x start end then up drawn in
    sym (take-take place start new less) ∙ ap (λ (xs : List ℕ). take place xs) kept ∙ take-take place start mid less
    ∙ kept_below old mid (time_line time) place start there less timed
    ∙ sym (append-nil (take place old)) ∙ ap (λ xs. take place old ++ at_time time xs) (sym none)

-- one in which something is, stands under its time
pub frame_full : (old mid new x : List ℕ) (place start end time : ℕ) → start ≤ length mid → end ≤ length new
    → take start mid ≡ take place old ++ time_line time → take end new ≡ take start mid ++ x → (end ≡ start → ⊥)
    → take end new ≡ take place old ++ at_time time x
frame_full old mid new [] place start end time then here timed drawn other = absurd (other (omega (arith, written_len mid new [] start end then here drawn)))
frame_full old mid new (b ∷ x) place start end time then here timed drawn other = behind (take place old) (take start mid) (take end new) (time_line time) (b ∷ x) timed drawn

-- the first bytes of a text that is written
pub text_written : (old text : List ℕ) (place k len : ℕ) → place ≤ length old → len ≤ length text → take (place + len) (put_mid place k old text) ≡ take place old ++ take len text
text_written old text place k len there short =
    ap (λ n. take (n + len) (take place old ++ (text ++ post_of place k old))) (sym (length-take-le place old there))
    ∙ take-append-add (take place old) (text ++ post_of place k old) len
    ∙ ap (λ xs. take place old ++ xs) (take-append-le len text (post_of place k old) short)
