-- The levels that a reader holds follow those that are drawn.
use Rattle.std.proofs.Common.{◌≡◌, ℕ, ◌+◌, ◌-◌, ◌*◌, ◌==◌, Bool, true, false, cond, List, [], ◌∷◌, ◌++◌, length, slice_set, refl, sym, ap, ◌∙◌, arith, append_assoc, append-nil}
use Rattle.std.proofs.lemmas.Bool.{eqb-true}
use Rattle.std.proofs.lemmas.List.{length-append}
use Rattle.nand_geometry.specs.declared.parts.Parts.{Parts}
use Rattle.onfi_cycle.specs.declared.item.Item.{Item}
use Rattle.onfi_cycle.specs.declared.item.Item.TheVariants.{Cyc, Rdy, Ard}
use Rattle.bus_lines.specs.declared.lines.Lines.{Lines}
use Rattle.bus_lines.specs.Lines.{idle, set_up, struck as struck_lines, at_rest}
use Rattle.trace_wave.specs.Levels.{levels}
use Rattle.trace_wave.specs.Wave.{Drawing, begun, after, after_all, levels_at, lines_struck}
use Rattle.vcd_text.specs.Body.{Event, Time, Change}
use Rattle.wave_laws.specs.Told.{change_event, change_events, events_at, frame_events, setting_events, strobe_events, item_events, events_from, last_events, events_of}
use Rattle.wave_laws.specs.Heard.{heard, all_heard, told_by, drawn_by, AreHeard}
use Rattle.wave_laws.proofs.Levels.{length_levels}

heard_both : (held : List ℕ) (es fs : List Event) → all_heard held (es ++ fs) ≡ all_heard (all_heard held es) fs
heard_both held [] fs = refl
heard_both held (e ∷ es) fs = heard_both (heard held e) es fs

set_at : (front : List ℕ) (b a : ℕ) (rest : List ℕ) → slice_set (front ++ (b ∷ rest)) (length front) a ≡ front ++ (a ∷ rest)
set_at [] b a rest = refl
set_at (c ∷ front) b a rest = ap (λ (xs : List ℕ). c ∷ xs) (set_at front b a rest)

one_heard : (front : List ℕ) (b a code : ℕ) (rest : List ℕ) → code ≡ 33 + length front → heard (front ++ (b ∷ rest)) (Change code (a ∷ [])) ≡ front ++ (a ∷ rest)
one_heard front b a code rest e =
    let place : code - 33 ≡ length front = omega (arith, e) in
    ap (λ (n : ℕ). slice_set (front ++ (b ∷ rest)) n a) place ∙ set_at front b a rest

one_longer : (front : List ℕ) (a code : ℕ) → code ≡ 33 + length front → code + 1 ≡ 33 + length (front ++ (a ∷ []))
one_longer front a code e = let more = length-append front (a ∷ []) in omega (arith, e, more)

settings_heard : (values front old : List ℕ) (code : ℕ) → code ≡ 33 + length front → length old ≡ length values → all_heard (front ++ old) (setting_events code values) ≡ front ++ values
settings_heard [] front [] code e same = refl
settings_heard [] front (b ∷ old) code e same = absurd (omega (arith, same))
settings_heard (v ∷ values) front [] code e same = absurd (omega (arith, same))
settings_heard (v ∷ values) front (b ∷ old) code e same =
    ap (λ (held : List ℕ). all_heard held (setting_events (code + 1) values)) (one_heard front b v code old e ∙ sym (append_assoc front (v ∷ []) old))
    ∙ settings_heard values (front ++ (v ∷ [])) old (code + 1) (one_longer front v code e) (omega (arith, same))
    ∙ append_assoc front (v ∷ []) values

changes_heard : (before after front : List ℕ) (code : ℕ) → code ≡ 33 + length front → length before ≡ length after → all_heard (front ++ before) (change_events code before after) ≡ front ++ after
changes_heard [] [] front code e same = refl
changes_heard [] (a ∷ after) front code e same = absurd (omega (arith, same))
changes_heard (b ∷ before) [] front code e same = absurd (omega (arith, same))
changes_heard (b ∷ before) (a ∷ after) front code e same =
    heard_both (front ++ (b ∷ before)) (change_event code b a) (change_events (code + 1) before after)
    ∙ ap (λ (held : List ℕ). all_heard held (change_events (code + 1) before after)) (one (b == a) refl ∙ sym (append_assoc front (a ∷ []) before))
    ∙ changes_heard before after (front ++ (a ∷ [])) (code + 1) (one_longer front a code e) (omega (arith, same))
    ∙ append_assoc front (a ∷ []) after
  where
    one : (x : Bool) → b == a ≡ x → all_heard (front ++ (b ∷ before)) (cond x [] (Change code (a ∷ []) ∷ [])) ≡ front ++ (a ∷ before)
    one true is = ap (λ (n : ℕ). front ++ (n ∷ before)) (eqb-true b a is)
    one false is = one_heard front b a code before e

timed_heard : (t : ℕ) (held : List ℕ) (events : List Event) → all_heard held (events_at t events) ≡ all_heard held events
timed_heard t held [] = refl
timed_heard t held (e ∷ events) = refl

frame_heard : (t : ℕ) (before after : List ℕ) → length before ≡ length after → all_heard before (frame_events t before after) ≡ after
frame_heard t before after same = timed_heard t before (change_events 33 before after) ∙ changes_heard before after [] 33 refl same

module _ (g : Parts) (targets : ℕ) where
  as_long : (d e : Drawing) (l k : Lines) → length (levels_at g targets d l) ≡ length (levels_at g targets e k)
  as_long d e l k = length_levels g targets d.past d.rule l ∙ sym (length_levels g targets e.past e.rule k)

  frame_follows : (t : ℕ) (d e : Drawing) (l k : Lines) → all_heard (levels_at g targets d l) (frame_events t (levels_at g targets d l) (levels_at g targets e k)) ≡ levels_at g targets e k
  frame_follows t d e l k = frame_heard t (levels_at g targets d l) (levels_at g targets e k) (as_long d e l k)

  strobe_follows : (d : Drawing) (i : Item) → all_heard (levels_at g targets d d.lines) (strobe_events g targets d i) ≡ levels_at g targets d (lines_struck d.lines i)
  strobe_follows d (Cyc c) =
      let up = levels_at g targets d (set_up d.lines c) in
      let down = levels_at g targets d (struck_lines (set_up d.lines c) c) in
      heard_both (levels_at g targets d d.lines) (frame_events (10 * d.items) (levels_at g targets d d.lines) up) (frame_events (10 * d.items + 2) up down)
      ∙ ap (λ (held : List ℕ). all_heard held (frame_events (10 * d.items + 2) up down)) (frame_follows (10 * d.items) d d d.lines (set_up d.lines c))
      ∙ frame_follows (10 * d.items + 2) d d (set_up d.lines c) (struck_lines (set_up d.lines c) c)
  strobe_follows d (Rdy _ _ _) = refl
  strobe_follows d (Ard _ _ _) = refl

  item_follows : (d : Drawing) (i : Item) → all_heard (levels_at g targets d d.lines) (item_events g targets d i) ≡ levels_at g targets (after g targets d i) (after g targets d i).lines
  item_follows d i =
      let later = after g targets d i in
      let low = levels_at g targets d (lines_struck d.lines i) in
      heard_both (levels_at g targets d d.lines) (strobe_events g targets d i) (frame_events (10 * d.items + 6) low (levels_at g targets later later.lines))
      ∙ ap (λ (held : List ℕ). all_heard held (frame_events (10 * d.items + 6) low (levels_at g targets later later.lines))) (strobe_follows d i)
      ∙ frame_follows (10 * d.items + 6) d later (lines_struck d.lines i) later.lines

  items_follow : (items : List Item) (d : Drawing) → all_heard (levels_at g targets d d.lines) (events_from g targets d items) ≡ levels_at g targets (after_all g targets d items) (after_all g targets d items).lines
  items_follow [] d = refl
  items_follow (i ∷ items) d =
      heard_both (levels_at g targets d d.lines) (item_events g targets d i) (events_from g targets (after g targets d i) items)
      ∙ ap (λ (held : List ℕ). all_heard held (events_from g targets (after g targets d i) items)) (item_follows d i)
      ∙ items_follow items (after g targets d i)

  last_follows : (d : Drawing) → all_heard (levels_at g targets d d.lines) (last_events g targets d) ≡ levels_at g targets d (at_rest d.lines)
  last_follows d = changes_heard (levels_at g targets d d.lines) (levels_at g targets d (at_rest d.lines)) [] 33 refl (as_long d d d.lines (at_rest d.lines))

  events_on : (items more : List Item) (d : Drawing) → events_from g targets d (items ++ more) ≡ events_from g targets d items ++ events_from g targets (after_all g targets d items) more
  events_on [] more d = refl
  events_on (i ∷ items) more d =
      ap (λ (es : List Event). item_events g targets d i ++ es) (events_on items more (after g targets d i))
      ∙ sym (append_assoc (item_events g targets d i) (events_from g targets (after g targets d i) items) (events_from g targets (after_all g targets (after g targets d i) items) more))

  pub drawn_on : (items more : List Item) (d : Drawing) → after_all g targets d (items ++ more) ≡ after_all g targets (after_all g targets d items) more
  drawn_on [] more d = refl
  drawn_on (i ∷ items) more d = drawn_on items more (after g targets d i)

  module _ (items : List Item) (first : List ℕ) (whole : length first ≡ length (levels g targets [] 0 idle)) where
    all_drawn : all_heard first (told_by g targets items) ≡ levels_at g targets (drawn_by g targets items) (drawn_by g targets items).lines
    all_drawn =
        heard_both first (setting_events 33 (levels g targets [] 0 idle)) (events_from g targets begun items)
        ∙ ap (λ (held : List ℕ). all_heard held (events_from g targets begun items)) (settings_heard (levels g targets [] 0 idle) [] first 33 refl whole)
        ∙ items_follow items begun

    then_heard : (events : List Event) (levels : List ℕ) → all_heard (levels_at g targets (drawn_by g targets items) (drawn_by g targets items).lines) events ≡ levels → all_heard first (told_by g targets items ++ events) ≡ levels
    then_heard events levels h =
        heard_both first (told_by g targets items) events
        ∙ ap (λ (held : List ℕ). all_heard held events) all_drawn
        ∙ h

    on : (more : List Item) → events_of g targets (items ++ more) ≡ told_by g targets items ++ (events_from g targets (drawn_by g targets items) more ++ last_events g targets (after_all g targets (drawn_by g targets items) more))
    on more =
        let settings = setting_events 33 (levels g targets [] 0 idle) in
        let here = events_from g targets begun items in
        let later = events_from g targets (drawn_by g targets items) more in
        let last = last_events g targets (after_all g targets (drawn_by g targets items) more) in
        ap (λ (d : Drawing). Time 0 ∷ (settings ++ (events_from g targets begun (items ++ more) ++ last_events g targets d))) (drawn_on items more begun)
        ∙ ap (λ (es : List Event). Time 0 ∷ (settings ++ (es ++ last))) (events_on items more begun)
        ∙ ap (λ (es : List Event). Time 0 ∷ (settings ++ es)) (append_assoc here later last)
        ∙ ap (λ (es : List Event). Time 0 ∷ es) (sym (append_assoc settings here (later ++ last)))

    pub are_heard : AreHeard g targets items first
    are_heard = record {
      goes_on = on;
      drawn = all_drawn;
      struck = λ next. then_heard (strobe_events g targets (drawn_by g targets items) next) (levels_at g targets (drawn_by g targets items) (lines_struck (drawn_by g targets items).lines next)) (strobe_follows (drawn_by g targets items) next);
      ended =
          ap (λ (is : List Item). all_heard first (events_of g targets is)) (sym (append-nil items))
          ∙ ap (all_heard first) (on [])
          ∙ then_heard (last_events g targets (drawn_by g targets items)) (levels_at g targets (drawn_by g targets items) (at_rest (drawn_by g targets items).lines)) (last_follows (drawn_by g targets items));
    }
