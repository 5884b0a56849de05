-- A capture follows what is drawn, item by item.
use Rattle.std.proofs.Common.{◌≡◌, ℕ, suc, ◌+◌, ◌*◌, ◌<◌, ◌≤◌, ◌==◌, ◌||◌, Bool, true, false, not, List, [], ◌∷◌, ◌++◌, length, Ok, refl, sym, ap, ◌∙◌, subst, arith, append_assoc, append-nil, None}
use Rattle.std.specs.Prelude.{map}
use Rattle.std.proofs.lemmas.Bool.{leb-true, and_parts}
use Rattle.nand_geometry.specs.declared.parts.Parts.{Parts}
use Rattle.nand_geometry.specs.Optional.{has_program_cache}
use Rattle.onfi_cycle.specs.declared.item.Cycle.{Cycle}
use Rattle.onfi_cycle.specs.declared.item.Kind.{Kind}
use Rattle.onfi_cycle.specs.declared.item.Kind.TheVariants.{Cmd, Adr, Din, Dout}
use Rattle.onfi_cycle.specs.declared.item.Failures.{Failures}
use Rattle.onfi_cycle.specs.declared.item.Item.{Item}
use Rattle.onfi_cycle.specs.declared.item.Item.TheVariants.{Cyc, Rdy, Ard}
use Rattle.onfi_cycle.specs.Permitted.{is_legal}
use Rattle.bus_lines.specs.declared.lines.Lines.{Lines}
use Rattle.bus_lines.specs.Lines.{set_up, struck, released, at_rest}
use Rattle.trace_wave.specs.Levels.{bit, levels, is_busy, has_busy_array}
use Rattle.trace_wave.specs.Wave.{Drawing, begun, after, after_all, levels_at}
use Rattle.vcd_text.specs.declared.tokens.Level.{Level}
use Rattle.vcd_text.specs.Body.{Event}
use Rattle.bus_signals.specs.declared.source.Source.{Source}
use Rattle.bus_capture.specs.declared.sampler.Observed.{Observed}
use Rattle.bus_capture.specs.declared.sampler.Sampler.{Sampler}
use Rattle.bus_capture.specs.declared.inferring.Stamped.{Stamped}
use Rattle.bus_capture.specs.Capturing.{capturing, settled}
use Rattle.wave_laws.specs.Told.{frame_events, item_events, events_from, last_events}
use Rattle.wave_laws.specs.Heard.{drawn_by}
use Rattle.wave_laws.specs.Lines.{lines_of}
use Rattle.wave_laws.specs.Readies.{held_of, busy_code}
use Rattle.wave_laws.proofs.Followed.{drawn_on}
use Rattle.wave_laws.proofs.Levels.{length_levels}
use Rattle.capture_laws.specs.Drawn.{carries_byte, carry_bytes, told_of, stamped_from}
use Rattle.capture_laws.proofs.Placed.{Shows}
use Rattle.capture_laws.proofs.Tables.{Fits}
use Rattle.capture_laws.proofs.Standing.{told, told_at, bus_at, Stands, stands}
use Rattle.capture_laws.proofs.Moving.{stood, all_stood, Names, names, array_seen, drawn_legal, Moves, moves}
use Rattle.capture_laws.proofs.Settling.{IsPrompt, ends_settled, seen_items, Settles}
use Rattle.capture_laws.proofs.Seeing.{of_kind, itself, still_settles, cycle_settles, busy_settles, array_settles}
use Rattle.capture_laws.proofs.Going.{all_ok, Waits, MayCome, IsLater, IsFirst, Gone, Sees, still_goes, still_frame, telling_frame, then_goes}

pub record AreHigh (l : Lines) : Type 0 where
  pub we : l.we ≡ true
  pub re : l.re ≡ true

-- a capture of all that is told
pub record Ends (sources : List Source) (s : Sampler) (os : List Observed) (events : List Event) (items : List Stamped) : Type 0 where
  pub all : List Observed
  pub is : capturing sources s os (all_ok events) ≡ Ok all
  pub seen : seen_items all ≡ items

module _ (g : Parts) (targets : ℕ) (fit : Fits targets g.luns) (few : targets ≤ 4) (few_luns : g.luns ≤ 4) where
  abbrev sources : List Source
  sources = lines_of targets g.luns

  abbrev caches : Bool
  caches = has_program_cache g.optional

  as_long : (d e : Drawing) (l k : Lines) → length (levels_at g targets d l) ≡ length (levels_at g targets e k)
  as_long d e l k = length_levels g targets d.past d.rule l ∙ sym (length_levels g targets e.past e.rule k)

  standing : (s : Sampler) (xs : List Level) (past : List Item) (rule : ℕ) (l : Lines) → s.targets ≡ targets → rule ≡ 0 → Shows sources xs (levels g targets past rule l) → Stands g s.targets xs past l
  standing s xs past rule l e none shows = subst (λ (n : ℕ). Stands g n xs past l) (sym e) (stands g targets xs past rule l fit shows none few)

  -- ---- 1. what is seen at each time

  still_sees : (d : Drawing) (l m : Lines) (items : List Stamped) (t : ℕ) → d.rule ≡ 0 → l.we ≡ true → l.re ≡ true → Sees sources targets caches (levels_at g targets d l) (levels_at g targets d m) items items t
  still_sees d l m items t none we re s os e same prompt time b a seen =
      subst (λ (is : List Stamped). Settles s os is) seen
      (still_settles g s os d.past l m prompt (standing s s.before.of d.past d.rule l e none b) (standing s s.after.of d.past d.rule m e none a) (rw we refl) (rw re refl))

  -- an item that is seen is one more
  one_more : (s : Sampler) (os : List Observed) (items : List Stamped) (t : ℕ) (i : Item) → s.time ≡ t → seen_items os ≡ items → Settles s os (seen_items os ++ (record { time = s.time; item = i } ∷ [])) → Settles s os (items ++ (record { time = t; item = i } ∷ []))
  one_more s os items t i time seen h =
      subst (λ (n : ℕ). Settles s os (items ++ (record { time = n; item = i } ∷ []))) time (subst (λ (is : List Stamped). Settles s os (is ++ (record { time = s.time; item = i } ∷ []))) seen h)

  module _ (d : Drawing) (i : Item) (done : List Item) (is : d ≡ drawn_by g targets done) (legal : (after g targets d i).rule ≡ 0) where
    abbrev next : Drawing
    next = after g targets d i

    none : d.rule ≡ 0
    none = (stood g targets d i legal).was

    past_is : next.past ≡ i ∷ d.past
    past_is = (stood g targets d i legal).past

    moved_at : Moves g targets d.past i
    moved_at = subst (λ (d : Drawing). (after g targets d i).rule ≡ 0 → Moves g targets d.past i) (sym is) (λ h. moves g targets done i h) legal

    moved : (s : Sampler) → s.targets ≡ targets → Moves g s.targets d.past i
    moved s e = subst (λ (n : ℕ). Moves g n d.past i) (sym e) moved_at

    standing_next : (s : Sampler) → s.targets ≡ targets → Shows sources s.after.of (levels_at g targets next next.lines) → Stands g s.targets s.after.of (i ∷ d.past) next.lines
    standing_next s e shows = subst (λ (past : List Item). Stands g s.targets s.after.of past next.lines) past_is (standing s s.after.of next.past next.rule next.lines e legal shows)

    ready_sees : (items : List Stamped) (t : ℕ) → next.lines ≡ d.lines →
        ((s : Sampler) (os : List Observed) → s.targets ≡ targets → s.caches ≡ caches → IsPrompt s → Stands g s.targets s.before.of d.past d.lines → Stands g s.targets s.after.of (i ∷ d.past) d.lines → Settles s os (seen_items os ++ (record { time = s.time; item = told_of i } ∷ []))) →
        Sees sources targets caches (levels_at g targets d d.lines) (levels_at g targets next next.lines) items (items ++ (record { time = t; item = told_of i } ∷ [])) t
    ready_sees items t lines h s os e same prompt time b a seen =
        one_more s os items t (told_of i) time seen
        (h s os e same prompt (standing s s.before.of d.past d.rule d.lines e none b) (subst (λ (l : Lines). Stands g s.targets s.after.of (i ∷ d.past) l) lines (standing_next s e a)))

    -- a line of the model that changes
    told_differs : (part ce lun : ℕ) → part < 3 → ce < targets → lun < g.luns → told true g d.past part ce lun ≡ bit true → told true g (i ∷ d.past) part ce lun ≡ bit false →
        levels_at g targets d d.lines ≡ levels_at g targets next next.lines → ⊥
    told_differs part ce lun small h k before now same =
        let code = busy_code g.luns targets ce lun + part in
        let one : held_of code (levels_at g targets d d.lines) ≡ bit true =
        told_at g targets d.past d.rule d.lines part ce lun code small h k refl ∙ ap (λ (n : ℕ). told (n == 0) g d.past part ce lun) none ∙ before in
        let two : held_of code (levels_at g targets next next.lines) ≡ bit false =
        told_at g targets next.past next.rule next.lines part ce lun code small h k refl ∙ ap (λ (n : ℕ). told (n == 0) g next.past part ce lun) legal ∙ ap (λ (past : List Item). told true g past part ce lun) past_is ∙ now in
        let both : bit true ≡ bit false = sym one ∙ ap (held_of code) same ∙ two in
        absurd (omega (arith, both))

  -- a strobe that rises
  strobe_differs : (d e : Drawing) (l m : Lines) (k : ℕ) → held_of (33 + targets + k) (levels_at g targets d l) ≡ bit false → held_of (33 + targets + k) (levels_at g targets e m) ≡ bit true →
      levels_at g targets d l ≡ levels_at g targets e m → ⊥
  strobe_differs d e l m k before now same =
      let both : bit false ≡ bit true = sym before ∙ ap (held_of (33 + targets + k)) same ∙ now in
      absurd (omega (arith, both))

  written_differs : (d e : Drawing) (l m : Lines) → l.we ≡ false → m.we ≡ true → levels_at g targets d l ≡ levels_at g targets e m → ⊥
  written_differs d e l m was is =
      strobe_differs d e l m 2 (bus_at g targets d.past d.rule l (33 + targets + 2) 2 refl ∙ ap bit was) (bus_at g targets e.past e.rule m (33 + targets + 2) 2 refl ∙ ap bit is)

  read_differs : (d e : Drawing) (l m : Lines) → l.re ≡ false → m.re ≡ true → levels_at g targets d l ≡ levels_at g targets e m → ⊥
  read_differs d e l m was is =
      strobe_differs d e l m 3 (bus_at g targets d.past d.rule l (33 + targets + 3) 3 refl ∙ ap bit was) (bus_at g targets e.past e.rule m (33 + targets + 3) 3 refl ∙ ap bit is)

  cycle_differs : (d e : Drawing) (l : Lines) (c : Cycle) (kind : Kind) → c.kind ≡ kind → levels_at g targets d (struck (set_up l c) c) ≡ levels_at g targets e (released (struck (set_up l c) c)) → ⊥
  cycle_differs d e l c kind is =
      subst (λ (k : Kind). levels_at g targets d (struck (set_up l (of_kind c k)) (of_kind c k)) ≡ levels_at g targets e (released (struck (set_up l (of_kind c k)) (of_kind c k))) → ⊥) (sym is) (by kind)
    where
      by : (k : Kind) → levels_at g targets d (struck (set_up l (of_kind c k)) (of_kind c k)) ≡ levels_at g targets e (released (struck (set_up l (of_kind c k)) (of_kind c k))) → ⊥
      by Cmd = written_differs d e (struck (set_up l (of_kind c Cmd)) (of_kind c Cmd)) (released (struck (set_up l (of_kind c Cmd)) (of_kind c Cmd))) refl refl
      by Adr = written_differs d e (struck (set_up l (of_kind c Adr)) (of_kind c Adr)) (released (struck (set_up l (of_kind c Adr)) (of_kind c Adr))) refl refl
      by Din = written_differs d e (struck (set_up l (of_kind c Din)) (of_kind c Din)) (released (struck (set_up l (of_kind c Din)) (of_kind c Din))) refl refl
      by Dout = read_differs d e (struck (set_up l (of_kind c Dout)) (of_kind c Dout)) (released (struck (set_up l (of_kind c Dout)) (of_kind c Dout))) refl refl

  -- ---- 2. an item

  abbrev stamp : Drawing → Item → List Stamped
  stamp d i = record { time = 10 * d.items + 6; item = told_of i } ∷ []

  abbrev ItemGoes : Drawing → Item → Sampler → List Observed → List Stamped → Type 0
  ItemGoes d i s os items = Gone sources targets caches s os (item_events g targets d i) (levels_at g targets (after g targets d i) (after g targets d i).lines) (items ++ stamp d i) (10 * d.items + 6)

  comes_later : (s : Sampler) (t u : ℕ) → MayCome s t → t < u → s.time < u
  comes_later s t u (IsLater after) h = omega (arith, after, h)
  comes_later s t u (IsFirst at fresh) h = omega (arith, at, h)

  cycle_goes : (d : Drawing) (c : Cycle) (done : List Item) → d ≡ drawn_by g targets done → (after g targets d (Cyc c)).rule ≡ 0 → c.byte < 256 → AreHigh d.lines →
      (s : Sampler) (os : List Observed) (items : List Stamped) → Waits sources targets caches s os (levels_at g targets d d.lines) items → MayCome s (10 * d.items) → ItemGoes d (Cyc c) s os items
  cycle_goes d c done is legal small high s os items waits may =
      let l = d.lines in
      let up = set_up l c in
      let down = struck up c in
      let t = 10 * d.items in
      let next = after g targets d (Cyc c) in
      let free = none d (Cyc c) done is legal in
      let one = still_frame sources fit.apart targets caches s os (levels_at g targets d l) (levels_at g targets d up) items t waits (as_long d d l up) may (still_sees d l up items t free high.we high.re) in
      let before : one.to.time < t + 2 = (let h = one.time in omega (arith, h)) in
      let two = still_frame sources fit.apart targets caches one.to one.now (levels_at g targets d up) (levels_at g targets d down) items (t + 2) one.waits (as_long d d up down) (IsLater before) (still_sees d up down items (t + 2) free high.we high.re) in
      let then' : two.to.time < t + 6 = (let h = two.time in omega (arith, h)) in
      let three = telling_frame sources fit.apart targets caches two.to two.now (levels_at g targets d down) (levels_at g targets next (released down)) items (t + 6) two.waits
      (as_long d next down (released down)) (items ++ stamp d (Cyc c)) then' sees (cycle_differs d next l c c.kind refl) in
      let first = frame_events t (levels_at g targets d l) (levels_at g targets d up) in
      let second = frame_events (t + 2) (levels_at g targets d up) (levels_at g targets d down) in
      let third = frame_events (t + 6) (levels_at g targets d down) (levels_at g targets next (released down)) in
      let both = then_goes sources targets caches one.to one.now second third (levels_at g targets d down) (levels_at g targets next (released down)) items (items ++ stamp d (Cyc c)) (t + 2) (t + 6) two three in
      subst (λ (es : List Event). Gone sources targets caches s os es (levels_at g targets next (released down)) (items ++ stamp d (Cyc c)) (t + 6)) (sym (append_assoc first second third))
      (then_goes sources targets caches s os first (second ++ third) (levels_at g targets d up) (levels_at g targets next (released down)) items (items ++ stamp d (Cyc c)) t (t + 6) one both)
    where
      sees : Sees sources targets caches (levels_at g targets d (struck (set_up d.lines c) c)) (levels_at g targets (after g targets d (Cyc c)) (released (struck (set_up d.lines c) c))) items (items ++ (record { time = 10 * d.items + 6; item = Cyc c } ∷ [])) (10 * d.items + 6)
      sees s os e same prompt time b a seen = one_more s os items (10 * d.items + 6) (Cyc c) time seen
          (cycle_settles g s os d.past d.lines c (moved d (Cyc c) done is legal s e) prompt (subst (λ (n : ℕ). c.ce < n) (sym e) (names g targets d (Cyc c) (none d (Cyc c) done is legal) legal)) small high.we high.re
          (standing s s.before.of d.past d.rule (struck (set_up d.lines c) c) e (none d (Cyc c) done is legal) b) (standing_next d (Cyc c) done is legal s e a))

  -- a LUN, of a sampler
  named : (s : Sampler) (past : List Item) (busy : Bool) (ce lun : ℕ) → s.targets ≡ targets → Names g targets past busy ce lun → Names g s.targets past busy ce lun
  named s past busy ce lun e h = subst (λ (n : ℕ). Names g n past busy ce lun) (sym e) h

  busy_goes : (d : Drawing) (ce lun : ℕ) (fail : Failures) (done : List Item) → d ≡ drawn_by g targets done → (after g targets d (Rdy ce lun fail)).rule ≡ 0 →
      (s : Sampler) (os : List Observed) (items : List Stamped) → Waits sources targets caches s os (levels_at g targets d d.lines) items → MayCome s (10 * d.items) → ItemGoes d (Rdy ce lun fail) s os items
  busy_goes d ce lun fail done is legal s os items waits may =
      let i = Rdy ce lun fail in
      let next = after g targets d i in
      let free = none d i done is legal in
      let name : Names g targets d.past true ce lun = names g targets d i free legal in
      let settle : (s : Sampler) (os : List Observed) → s.targets ≡ targets → s.caches ≡ caches → IsPrompt s → Stands g s.targets s.before.of d.past d.lines → Stands g s.targets s.after.of (i ∷ d.past) d.lines → Settles s os (seen_items os ++ (record { time = s.time; item = told_of i } ∷ [])) =
      λ s os e same prompt b a. busy_settles g s os d.past d.lines ce lun fail (moved d i done is legal s e) prompt few_luns (named s d.past true ce lun e name) b a in
      let falls : is_busy g (i ∷ d.past) ce lun ≡ false = (moved_at d i done is legal).busy ce lun name.target name.within name.works ∙ ap not (itself ce lun) in
      telling_frame sources fit.apart targets caches s os (levels_at g targets d d.lines) (levels_at g targets next next.lines) items (10 * d.items + 6) waits (as_long d next d.lines next.lines)
      (items ++ stamp d i) (comes_later s (10 * d.items) (10 * d.items + 6) may (omega arith)) (ready_sees d i done is legal items (10 * d.items + 6) refl settle)
      (told_differs d i done is legal 0 ce lun (omega arith) name.target name.within (ap bit name.works) (ap bit falls))

  array_goes : (d : Drawing) (ce lun : ℕ) (fail : Bool) (done : List Item) → d ≡ drawn_by g targets done → (after g targets d (Ard ce lun fail)).rule ≡ 0 →
      (s : Sampler) (os : List Observed) (items : List Stamped) → Waits sources targets caches s os (levels_at g targets d d.lines) items → MayCome s (10 * d.items) → ItemGoes d (Ard ce lun fail) s os items
  array_goes d ce lun fail done is legal s os items waits may =
      let i = Ard ce lun fail in
      let next = after g targets d i in
      let free = none d i done is legal in
      let name : Names g targets d.past false ce lun = names g targets d i free legal in
      let past : is_legal g targets d.past ≡ true = ap (λ (d : Drawing). is_legal g targets d.past) is ∙ drawn_legal g targets done begun refl in
      let shown : (s : Sampler) → s.caches ≡ caches → (s.caches || not (is_busy g d.past ce lun)) ≡ true =
      λ s same. ap (λ (b : Bool). b || not (is_busy g d.past ce lun)) same ∙ array_seen g targets d.past past ce lun name.works in
      let settle : (s : Sampler) (os : List Observed) → s.targets ≡ targets → s.caches ≡ caches → IsPrompt s → Stands g s.targets s.before.of d.past d.lines → Stands g s.targets s.after.of (i ∷ d.past) d.lines → Settles s os (seen_items os ++ (record { time = s.time; item = told_of i } ∷ [])) =
      λ s os e same prompt b a. array_settles g s os d.past d.lines ce lun fail (moved d i done is legal s e) prompt few_luns (named s d.past false ce lun e name) (shown s same) b a in
      let falls : has_busy_array g (i ∷ d.past) ce lun ≡ false = (moved_at d i done is legal).array ce lun name.target name.within refl name.works ∙ ap not (itself ce lun) in
      telling_frame sources fit.apart targets caches s os (levels_at g targets d d.lines) (levels_at g targets next next.lines) items (10 * d.items + 6) waits (as_long d next d.lines next.lines)
      (items ++ stamp d i) (comes_later s (10 * d.items) (10 * d.items + 6) may (omega arith)) (ready_sees d i done is legal items (10 * d.items + 6) refl settle)
      (told_differs d i done is legal 1 ce lun (omega arith) name.target name.within (ap bit name.works) (ap bit falls))

  item_goes : (d : Drawing) (i : Item) (done : List Item) → d ≡ drawn_by g targets done → (after g targets d i).rule ≡ 0 → carries_byte i ≡ true → AreHigh d.lines →
      (s : Sampler) (os : List Observed) (items : List Stamped) → Waits sources targets caches s os (levels_at g targets d d.lines) items → MayCome s (10 * d.items) → ItemGoes d i s os items
  item_goes d (Cyc c) done is legal byte high s os items waits may = cycle_goes d c done is legal (leb-true (suc c.byte) 256 byte) high s os items waits may
  item_goes d (Rdy ce lun fail) done is legal byte high s os items waits may = busy_goes d ce lun fail done is legal s os items waits may
  item_goes d (Ard ce lun fail) done is legal byte high s os items waits may = array_goes d ce lun fail done is legal s os items waits may

  stays_high : (d : Drawing) (i : Item) → AreHigh d.lines → AreHigh (after g targets d i).lines
  stays_high d (Cyc c) h = record { we = refl; re = refl }
  stays_high d (Rdy ce lun fail) h = record { we = h.we; re = h.re }
  stays_high d (Ard ce lun fail) h = record { we = h.we; re = h.re }

  -- ---- 3. all items

  ended : (s : Sampler) (os now : List Observed) → settled s os ≡ Ok now → s.late ≡ None → capturing sources s os [] ≡ Ok now
  ended s os now is early = rw is (ends_settled s now early)

  last_ends : (d : Drawing) → d.rule ≡ 0 → AreHigh d.lines → (s : Sampler) (os : List Observed) (items : List Stamped) → Waits sources targets caches s os (levels_at g targets d d.lines) items → MayCome s (10 * d.items) → Ends sources s os (last_events g targets d) items
  last_ends d free high s os items waits may =
      let one = still_goes sources fit.apart targets caches s os (levels_at g targets d d.lines) (levels_at g targets d (at_rest d.lines)) items (10 * d.items) waits (as_long d d d.lines (at_rest d.lines)) may
      (still_sees d d.lines (at_rest d.lines) items (10 * d.items) free high.we high.re) in
      record {
        all = one.waits.settles.now;
        is = ap (λ (es : List Event). capturing sources s os (all_ok es)) (sym (append-nil (last_events g targets d))) ∙ one.goes [] ∙ ended one.to one.now one.waits.settles.now one.waits.settles.is one.waits.prompt.1;
        seen = one.waits.settles.seen;
      }

  pub items_end : (items : List Item) (d : Drawing) (done : List Item) → d ≡ drawn_by g targets done → (after_all g targets d items).rule ≡ 0 → carry_bytes items ≡ true → AreHigh d.lines →
      (s : Sampler) (os : List Observed) (stamped : List Stamped) → Waits sources targets caches s os (levels_at g targets d d.lines) stamped → MayCome s (10 * d.items) →
      Ends sources s os (events_from g targets d items ++ last_events g targets (after_all g targets d items)) (stamped ++ stamped_from d.items (map told_of items))
  items_end [] d done is legal bytes high s os stamped waits may =
      subst (λ (is : List Stamped). Ends sources s os (last_events g targets d) is) (sym (append-nil stamped)) (last_ends d legal high s os stamped waits may)
  items_end (i ∷ items) d done is legal bytes high s os stamped waits may =
      let next = after g targets d i in
      let here : next.rule ≡ 0 = all_stood g targets next items legal in
      let parts = and_parts (carries_byte i) (carry_bytes items) bytes in
      let one = item_goes d i done is here parts.0 high s os stamped waits may in
      let follows : next ≡ drawn_by g targets (done ++ (i ∷ [])) = ap (λ (d : Drawing). after g targets d i) is ∙ sym (drawn_on g targets done (i ∷ []) begun) in
      let earlier : one.to.time < 10 * next.items = (let h = one.time in omega (arith, h)) in
      let rest = items_end items next (done ++ (i ∷ [])) follows legal parts.1 (stays_high d i high) one.to one.now (stamped ++ stamp d i) one.waits (IsLater earlier) in
      let last = last_events g targets (after_all g targets next items) in
      record {
        all = rest.all;
        is = ap (λ (es : List Event). capturing sources s os (all_ok es)) (append_assoc (item_events g targets d i) (events_from g targets next items) last) ∙ one.goes (events_from g targets next items ++ last) ∙ rest.is;
        seen = rest.seen ∙ append_assoc stamped (stamp d i) (stamped_from next.items (map told_of items));
      }
