-- What is told of the frames of a trace.
use Rattle.std.proofs.Common.{◌≡◌, ℕ, suc, ◌+◌, ◌*◌, ◌^◌, ◌<◌, ◌≤◌, true, List, [], ◌∷◌, ◌++◌, length, sym, subst, arith, append_assoc}
use Rattle.nand_geometry.specs.declared.parts.Parts.{Parts}
use Rattle.onfi_cycle.specs.declared.item.Item.{Item}
use Rattle.onfi_cycle.specs.declared.item.Item.TheVariants.{Cyc, Rdy, Ard}
use Rattle.bus_lines.specs.declared.lines.Lines.{Lines}
use Rattle.bus_lines.specs.Lines.{set_up, struck, at_rest}
use Rattle.trace_wave.specs.Changes.{changes, time_line, frame}
use Rattle.trace_wave.specs.Wave.{Drawing, after, after_all, levels_at, lines_struck, strobe_frames, item_frames, frames, last_frame}
use Rattle.vcd_text.specs.Body.{Widths, Event, Time}
use Rattle.wave_laws.specs.Told.{change_events, frame_events, strobe_events, item_events, events_from, last_events}
use Rattle.wave_laws.proofs.Texts.{Says, have_bits, says_nothing, says_within, says_both, says_time, says_changes, says_frame}
use Rattle.wave_laws.proofs.Levels.{line_count, length_levels, bits_levels}

module _ (g : Parts) (targets : ℕ) (widths : Widths) (have : have_bits widths 33 (line_count targets g.luns) ≡ true) where
  have_levels : (d : Drawing) (l : Lines) → have_bits widths 33 (length (levels_at g targets d l)) ≡ true
  have_levels d l = subst (λ (n : ℕ). have_bits widths 33 n ≡ true) (sym (length_levels g targets d.past d.rule l)) have

  of_frame : (from t : ℕ) (d e : Drawing) (l k : Lines) → from ≤ t → t < 10 ^ 18 → Says widths from t (frame t (levels_at g targets d l) (levels_at g targets e k)) (frame_events t (levels_at g targets d l) (levels_at g targets e k))
  of_frame from t d e l k h small = says_frame widths from t (levels_at g targets d l) (levels_at g targets e k) h small (bits_levels g targets e.past e.rule k) (have_levels d l)

  of_strobe : (d : Drawing) (i : Item) → 10 * d.items + 10 < 10 ^ 18 → Says widths (10 * d.items) (10 * d.items + 2) (strobe_frames g targets d i) (strobe_events g targets d i)
  of_strobe d (Cyc c) small =
      let t = 10 * d.items in
      says_both widths t t (t + 2)
      (frame t (levels_at g targets d d.lines) (levels_at g targets d (set_up d.lines c)))
      (frame (t + 2) (levels_at g targets d (set_up d.lines c)) (levels_at g targets d (struck (set_up d.lines c) c)))
      (frame_events t (levels_at g targets d d.lines) (levels_at g targets d (set_up d.lines c)))
      (frame_events (t + 2) (levels_at g targets d (set_up d.lines c)) (levels_at g targets d (struck (set_up d.lines c) c)))
      (of_frame t t d d d.lines (set_up d.lines c) (omega arith) (omega (arith, small)))
      (of_frame t (t + 2) d d (set_up d.lines c) (struck (set_up d.lines c) c) (omega arith) (omega (arith, small)))
  of_strobe d (Rdy _ _ _) small = says_nothing widths (10 * d.items) (10 * d.items + 2) (omega arith)
  of_strobe d (Ard _ _ _) small = says_nothing widths (10 * d.items) (10 * d.items + 2) (omega arith)

  of_item : (d : Drawing) (i : Item) → 10 * d.items + 10 < 10 ^ 18 → Says widths (10 * d.items) (10 * d.items + 6) (item_frames g targets d i) (item_events g targets d i)
  of_item d i small =
      let t = 10 * d.items in
      let later = after g targets d i in
      says_both widths t (t + 2) (t + 6) (strobe_frames g targets d i) (frame (t + 6) (levels_at g targets d (lines_struck d.lines i)) (levels_at g targets later later.lines))
      (strobe_events g targets d i) (frame_events (t + 6) (levels_at g targets d (lines_struck d.lines i)) (levels_at g targets later later.lines))
      (of_strobe d i small) (of_frame (t + 2) (t + 6) d later (lines_struck d.lines i) later.lines (omega arith) (omega (arith, small)))

  of_last : (d : Drawing) → 10 * d.items < 10 ^ 18 → Says widths (10 * d.items) (10 * d.items) (last_frame g targets d) (last_events g targets d)
  of_last d small =
      let t = 10 * d.items in
      says_both widths t t t (time_line t) (changes 33 (levels_at g targets d d.lines) (levels_at g targets d (at_rest d.lines))) (Time t ∷ []) (change_events 33 (levels_at g targets d d.lines) (levels_at g targets d (at_rest d.lines)))
      (says_time widths t t (omega arith) small)
      (says_changes widths t (levels_at g targets d d.lines) (levels_at g targets d (at_rest d.lines)) 33 (omega arith) (bits_levels g targets d.past d.rule (at_rest d.lines)) (have_levels d d.lines))

  -- the frames, up to the end
  pub of_frames : (items : List Item) (d : Drawing) → 10 * (d.items + length items) < 10 ^ 18 →
      Says widths (10 * d.items) (10 * (d.items + length items)) (frames g targets d items ++ last_frame g targets (after_all g targets d items)) (events_from g targets d items ++ last_events g targets (after_all g targets d items))
  of_frames [] d small = subst (λ (n : ℕ). Says widths (10 * d.items) (10 * n) (last_frame g targets d) (last_events g targets d)) same (of_last d (omega (arith, small)))
    where
      same : d.items ≡ d.items + 0
      same = omega arith
  of_frames (i ∷ items) d small =
      let later = after g targets d i in
      let text = item_frames g targets d i in
      let more = frames g targets later items in
      let last = last_frame g targets (after_all g targets later items) in
      let events = item_events g targets d i in
      let more_events = events_from g targets later items in
      let last_told = last_events g targets (after_all g targets later items) in
      let rest : Says widths (10 * later.items) (10 * (later.items + length items)) (more ++ last) (more_events ++ last_told) = of_frames items later (omega (arith, small)) in
      let here : Says widths (10 * d.items) (10 * later.items) text events = says_within widths (10 * d.items) (10 * d.items + 6) (10 * later.items) text events (omega arith) (of_item d i (omega (arith, small))) in
      let whole = says_both widths (10 * d.items) (10 * later.items) (10 * (later.items + length items)) text (more ++ last) events (more_events ++ last_told) here rest in
      let limit : later.items + length items ≡ d.items + suc (length items) = omega arith in
      subst (λ (n : ℕ). Says widths (10 * d.items) (10 * n) ((text ++ more) ++ last) ((events ++ more_events) ++ last_told)) limit
      (subst (λ (x : List ℕ). Says widths (10 * d.items) (10 * (later.items + length items)) x ((events ++ more_events) ++ last_told)) (sym (append_assoc text more last))
      (subst (λ (x : List Event). Says widths (10 * d.items) (10 * (later.items + length items)) (text ++ (more ++ last)) x) (sym (append_assoc events more_events last_told)) whole))
