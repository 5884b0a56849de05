-- What is drawn comes back.
use Rattle.std.proofs.Common.{◌≡◌, ℕ, zero, suc, ◌-◌, ◌<◌, ◌≤◌, ◌==◌, Bool, true, false, cond, not, List, [], ◌∷◌, ◌++◌, length, get_or, Option, Some, None, Ok, Result, refl, sym, ap, ◌∙◌, arith, append_assoc, append-nil}
use Rattle.std.specs.Prelude.{slice_get, map, reverse, is_none}
use Rattle.std.proofs.lemmas.Grind.{reverse_onto}
use Rattle.std.proofs.lemmas.Bool.{leb-true, and_parts, false≢true}
use Rattle.nand_geometry.specs.declared.parts.Parts.{Parts}
use Rattle.nand_geometry.specs.Optional.{has_program_cache}
use Rattle.onfi_cycle.specs.declared.item.Item.{Item}
use Rattle.onfi_cycle.specs.declared.item.Item.TheVariants.{Cyc, Rdy, Ard}
use Rattle.onfi_cycle.specs.declared.forbidden.Forbidden.{Forbidden}
use Rattle.onfi_cycle.specs.Permitted.{broken, is_permitted, is_legal}
use Rattle.bus_lines.specs.Lines.{idle}
use Rattle.trace_wave.specs.Levels.{levels}
use Rattle.trace_wave.specs.Wave.{Drawing, begun, after, after_all, number_of, dump}
use Rattle.vcd_text.specs.declared.tokens.Level.TheVariants.{Unknown}
use Rattle.vcd_text.specs.Header.{Variable}
use Rattle.vcd_text.specs.Body.{Event}
use Rattle.bus_signals.specs.declared.source.Source.{Source}
use Rattle.bus_signals.specs.declared.mapping.Mapping.{Mapping}
use Rattle.bus_signals.specs.Roles.{carriers_of, sources_of}
use Rattle.trace_faults.specs.declared.trace_state.TraceState.{TraceState}
use Rattle.trace_faults.specs.Recovery.{fresh}
use Rattle.bus_capture.specs.declared.fault.CaptureFault.{CaptureFault}
use Rattle.bus_capture.specs.declared.sampler.Observation.{Observation}
use Rattle.bus_capture.specs.declared.sampler.Observation.TheVariants as observation
use Rattle.bus_capture.specs.declared.sampler.Observed.{Observed}
use Rattle.bus_capture.specs.declared.inferring.Stamped.{Stamped}
use Rattle.bus_capture.specs.declared.reading.Setup.{Setup}
use Rattle.bus_capture.specs.declared.reading.CaptureForm.{CaptureForm}
use Rattle.bus_capture.specs.declared.reading.CaptureForm.TheVariants.{Dump}
use Rattle.bus_capture.specs.Capturing.{begun as blank, unknown, unknown_from, in_roles, sources_in, told_items, body_items, tells_readies, shown_in}
use Rattle.bus_capture.specs.Inferring.{inferred, captured_by, captured}
use Rattle.wave_laws.specs.Told.{events_from, last_events, events_of, signals_of, Tells}
use Rattle.wave_laws.specs.Heard.{drawn_by}
use Rattle.wave_laws.specs.Lines.{lines_of}
use Rattle.wave_laws.proofs.Dumps.{drawn}
use Rattle.wave_laws.proofs.Levels.{line_count, length_levels}
use Rattle.wave_laws.proofs.Named.{names_are_lines}
use Rattle.capture_laws.specs.Drawn.{carry_bytes, told_of, tells_all, tell_all, stamped_from, DrawnIsCaptured, DrawnComesBack}
use Rattle.capture_laws.proofs.Placed.{Shows, code_at, held_level}
use Rattle.capture_laws.proofs.Tables.{Fits, fits, is_among, size_at}
use Rattle.capture_laws.proofs.Settling.{seen_items}
use Rattle.capture_laws.proofs.Going.{with_levels, IsFresh, Waits, IsFirst, settings_go, fresh_settles}
use Rattle.capture_laws.proofs.Following.{Ends, items_end}

-- ---- 1. it begins

unknowns : ℕ → List ℕ
unknowns zero = []
unknowns (suc n) = 120 ∷ unknowns n

length_unknowns : (n : ℕ) → length (unknowns n) ≡ n
unfolding unknowns
length_unknowns zero = refl
length_unknowns (suc n) = ap suc (length_unknowns n)

unknowns_at : (n k : ℕ) → k < n → get_or (unknowns n) k 0 ≡ 120
unfolding unknowns
unknowns_at zero k few = absurd (omega (arith, few))
unknowns_at (suc n) zero few = refl
unknowns_at (suc n) (suc k) few = unknowns_at n k (omega (arith, few))

get_unknown : (n p : ℕ) → p < n → slice_get (unknown_from n) p ≡ Some Unknown
get_unknown zero p few = absurd (omega (arith, few))
get_unknown (suc n) zero few = refl
get_unknown (suc n) (suc p) few = get_unknown n p (omega (arith, few))

held_unknown : (o : Option ℕ) (n : ℕ) → is_among o n ≡ true → held_level o (unknowns n) ≡ Unknown
held_unknown None n h = refl
held_unknown (Some code) n h = rw (unknowns_at n (code - 33) (leb-true (suc (code - 33)) n h)) refl

unknown_shown : (targets luns : ℕ) → Fits targets luns → Shows (lines_of targets luns) unknown (unknowns (line_count targets luns))
unknown_shown targets luns fit p few =
    get_unknown 68 p few ∙ ap Some (sym (held_unknown (code_at (lines_of targets luns) p) (line_count targets luns) (fit.among p few)))

-- ---- 2. it goes on to the end

events_end : (g : Parts) (targets glitch : ℕ) (late : Option ℕ) (items : List Item) → (glitch ≡ 0) × (late ≡ None) → Fits targets g.luns → targets ≤ 4 → g.luns ≤ 4 → (drawn_by g targets items).rule ≡ 0 → carry_bytes items ≡ true →
    Ends (lines_of targets g.luns) (blank targets glitch late (has_program_cache g.optional) unknown) [] (events_of g targets items) (stamped_from 0 (map told_of items))
events_end g targets glitch late items prompt fit few four legal bytes =
    let sources = lines_of targets g.luns in
    let s = blank targets glitch late (has_program_cache g.optional) unknown in
    let first = levels g targets [] 0 idle in
    let long : length (unknowns (line_count targets g.luns)) ≡ length first = length_unknowns (line_count targets g.luns) ∙ sym (length_levels g targets [] 0 idle) in
    let c = settings_go sources fit.apart first (unknowns (line_count targets g.luns)) [] 33 s [] refl long (unknown_shown targets g.luns fit) in
    let fresh : IsFresh (with_levels s c.xs) = record { before = refl; we = refl; re = refl } in
    let waits : Waits sources targets (has_program_cache g.optional) (with_levels s c.xs) [] first [] = record { of_targets = refl; of_caches = refl; prompt = prompt; shows = c.shows; settles = fresh_settles (with_levels s c.xs) [] fresh prompt } in
    let rest = events_from g targets begun items ++ last_events g targets (after_all g targets begun items) in
    let e = items_end g targets fit few four items begun [] refl legal bytes (record { we = refl; re = refl }) (with_levels s c.xs) [] [] waits (IsFirst refl fresh) in
    record { all = e.all; is = c.goes rest ∙ e.is; seen = e.seen }

-- ---- 3. a model tells its readies

lines_tell : (targets luns : ℕ) → 1 ≤ targets → targets ≤ 4 → 1 ≤ luns → luns ≤ 4 → tells_readies (lines_of targets luns) ≡ true
lines_tell targets luns some few some_luns few_luns = size_at (λ t l. tells_readies (lines_of t l)) refl targets luns some few some_luns few_luns

told_by_lines : (luns : ℕ) (state : TraceState) (stamped : List Stamped) (os : List Observed) → inferred luns false state stamped os ≡ stamped ++ seen_items os
told_by_lines luns state stamped [] = sym (append-nil stamped)
told_by_lines luns state stamped (o ∷ os) = by o.observation (λ state stamped. told_by_lines luns state stamped os)
  where
    by : (x : Observation) → ((state : TraceState) (stamped : List Stamped) → inferred luns false state stamped os ≡ stamped ++ seen_items os) →
        inferred luns false state stamped (record { time = o.time; observation = x } ∷ os) ≡ stamped ++ seen_items (record { time = o.time; observation = x } ∷ os)
    by (observation.Item i) go =
        go state (stamped ++ (record { time = o.time; item = i } ∷ [])) ∙ append_assoc stamped (record { time = o.time; item = i } ∷ []) (seen_items os)
    by (observation.Released ce) go = go state (stamped ++ []) ∙ ap (λ (xs : List Stamped). xs ++ seen_items os) (append-nil stamped)

-- ---- 4. the law

captured_from : (setup : Setup) (text : List ℕ) (signals : List Variable) (events : List Event) (sources : List Source) (stamped : List Stamped) → setup.form ≡ Dump → Tells text signals events →
    sources_of setup.targets (carriers_of setup.mappings.now signals) ≡ Ok sources → Ends sources (blank setup.targets setup.glitch setup.late (has_program_cache setup.geometry.optional) unknown) [] events stamped → tells_readies sources ≡ true → captured setup text ≡ Ok stamped
captured_from setup text signals events sources stamped form tells found ends ready =
    let there : sources_in setup tells.read ≡ Ok sources = ap (λ (vs : List Variable). in_roles (sources_of setup.targets (carriers_of setup.mappings.now vs))) tells.declared ∙ ap in_roles found in
    let body : body_items setup tells.read sources ≡ Ok ends.all = ap (told_items setup sources) tells.told ∙ ends.is in
    let shows : shown_in setup text ≡ Ok (record { observed = ends.all; tells_readies = tells_readies sources }) = rw tells.is_read (rw there (rw body refl)) in
    ap (λ (f : CaptureForm). captured_by f setup [] text) form
    ∙ rw shows refl
    ∙ ap (λ (b : Bool). okay (inferred setup.geometry.luns (not b) (fresh setup.geometry setup.targets) [] ends.all)) ready
    ∙ ap okay (told_by_lines setup.geometry.luns (fresh setup.geometry setup.targets) [] ends.all ∙ ends.seen)
  where
    okay : List Stamped → Result (List Stamped) CaptureFault
    okay x = Ok x

-- a drawing of what breaks no rule tells none
legal_behind : (g : Parts) (targets : ℕ) (later past : List Item) → is_legal g targets (later ++ past) ≡ true → is_legal g targets past ≡ true
legal_behind g targets [] past h = h
legal_behind g targets (i ∷ later) past h = legal_behind g targets later past (and_parts (is_permitted g targets (later ++ past) i) (is_legal g targets (later ++ past)) h).1

none_broken : (o : Option Forbidden) → is_none o ≡ true → number_of o ≡ 0
none_broken None h = refl
none_broken (Some rule) h = absurd (false≢true h)

legal_drawn : (g : Parts) (targets : ℕ) (items : List Item) (d : Drawing) → d.rule ≡ 0 → is_legal g targets (reverse items ++ d.past) ≡ true → (after_all g targets d items).rule ≡ 0
legal_drawn g targets [] d none h = none
legal_drawn g targets (i ∷ items) d none h =
    let next = after g targets d i in
    let all : is_legal g targets (reverse items ++ (i ∷ d.past)) ≡ true =
    ap (is_legal g targets) (sym (ap (λ (xs : List Item). xs ++ d.past) (reverse_onto items i []) ∙ append_assoc (reverse items) (i ∷ []) d.past)) ∙ h in
    let here = and_parts (is_permitted g targets d.past i) (is_legal g targets d.past) (legal_behind g targets (reverse items) (i ∷ d.past) all) in
    let free : next.rule ≡ 0 = ap (λ (n : ℕ). cond (n == 0) (number_of (broken g targets d.past i)) n) none ∙ none_broken (broken g targets d.past i) here.0 in
    let past : next.past ≡ i ∷ d.past = ap (λ (n : ℕ). cond (n == 0) (i ∷ d.past) d.past) free in
    legal_drawn g targets items next free (ap (λ (past : List Item). is_legal g targets (reverse items ++ past)) past ∙ all)

pub drawn_is_captured : DrawnIsCaptured
drawn_is_captured setup items plain legal bytes short =
    let g = setup.geometry in
    let targets = setup.targets in
    captured_from setup (dump g targets items) (signals_of targets g.luns) (events_of g targets items) (lines_of targets g.luns) (stamped_from 0 (map told_of items)) plain.form
    (drawn g targets items plain.some plain.few plain.luns plain.few_luns short)
    (ap (λ (ms : List Mapping). sources_of targets (carriers_of ms (signals_of targets g.luns))) plain.names ∙ names_are_lines targets g.luns plain.some plain.few plain.luns plain.few_luns)
    (events_end g targets setup.glitch setup.late items (plain.glitch, plain.late) (fits targets g.luns plain.some plain.few plain.luns plain.few_luns) plain.few plain.few_luns
    (legal_drawn g targets items begun refl (ap (is_legal g targets) (append-nil (reverse items)) ∙ legal)) bytes)
    (lines_tell targets g.luns plain.some plain.few plain.luns plain.few_luns)

-- ---- 5. all comes back where no failure of the page before is told

same_before : (b : Bool) → not b ≡ true → false ≡ b
same_before true h = absurd (false≢true h)
same_before false h = refl

told_same : (i : Item) → tells_all i ≡ true → told_of i ≡ i
told_same (Cyc c) h = refl
told_same (Rdy ce lun fail) h = ap (λ (b : Bool). Rdy ce lun (record { last = fail.last; before = b })) (same_before fail.before h)
told_same (Ard ce lun fail) h = refl

all_same : (items : List Item) → tell_all items ≡ true → map told_of items ≡ items
all_same [] h = refl
all_same (i ∷ items) h =
    let parts = and_parts (tells_all i) (tell_all items) h in
    ap (λ (j : Item). j ∷ map told_of items) (told_same i parts.0) ∙ ap (λ (rest : List Item). i ∷ rest) (all_same items parts.1)

pub drawn_comes_back : DrawnComesBack
drawn_comes_back setup items plain legal bytes short all =
    drawn_is_captured setup items plain legal bytes short ∙ ap (λ (told : List Item). Ok (stamped_from 0 told)) (all_same items all)
