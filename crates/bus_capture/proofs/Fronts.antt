-- What a capture comes to after items stands behind them, whatever they are.
use Rattle.std.proofs.Common.{◌≡◌, ℕ, Bool, true, false, not, List, [], ◌∷◌, ◌++◌, Option, Some, None, Result, Ok, Err, refl, ap, ◌∙◌}
use Rattle.std.proofs.lemmas.List.{append_assoc}
use Rattle.onfi_cycle.specs.declared.item.Item.{Item}
use Rattle.trace_faults.specs.declared.trace_state.TraceState.{TraceState}
use Rattle.vcd_text.specs.Tokens.{◌>>=◌}
use Rattle.trace_faults.specs.Recovery.{fresh}
use Rattle.vcd_text.specs.Body.{Told}
use Rattle.vcd_text.specs.Shown.{told_at}
use Rattle.bus_capture.specs.declared.tracer.Tracer.{Tracer}
use Rattle.trace_faults.specs.ShownReadies.{ready_before, array_ready_before, with_ready}
use Rattle.bus_capture.specs.declared.fault.CaptureFault.{CaptureFault}
use Rattle.bus_capture.specs.declared.sampler.Observation.{Observation}
use Rattle.bus_capture.specs.declared.sampler.Observation.TheVariants as observation
use Rattle.bus_capture.specs.declared.sampler.Observed.{Observed}
use Rattle.bus_capture.specs.declared.inferring.Stamped.{Stamped}
use Rattle.bus_capture.specs.declared.dump_reader.DumpReader.{DumpReader}
use Rattle.bus_capture.specs.declared.table_reader.TableReader.{TableReader}
use Rattle.csv_text.specs.Shown as csv
use Rattle.bus_capture.specs.declared.reading.Setup.{Setup}
use Rattle.bus_capture.specs.declared.reading.CaptureReader.{CaptureReader}
use Rattle.bus_capture.specs.declared.reading.CaptureForm.{CaptureForm}
use Rattle.bus_capture.specs.declared.reading.CaptureForm.TheVariants as form
use Rattle.bus_capture.specs.Capturing.{Shown, capturing, shown_in, shown_in_csv}
use Rattle.bus_capture.specs.Inferring.{items_after, stamps, with_shown, state_after, rise_of, after_rise, rise_stamps, inferred_by, inferred}
use Rattle.bus_capture.specs.Tracing.{inferred_on, traced, comes_dump, last_of, comes_table, comes_as}
use Rattle.bus_capture.specs.Fronts.{in_front, KeepsFront}

shown_front : (infers : Bool) (state : TraceState) (time : ℕ) (item : Item) (xs ys : List Stamped) → with_shown infers state time item (xs ++ ys) ≡ xs ++ with_shown infers state time item ys
shown_front false state time item xs ys = append_assoc xs ys (stamps time (Some item))
shown_front true state time item xs ys =
    let a = stamps time (ready_before state item) in
    let b = stamps time (array_ready_before (with_ready state item) item) in
    let c = stamps time (Some item) in
    ap (λ (l : List Stamped). (l ++ b) ++ c) (append_assoc xs ys a) ∙ ap (λ (l : List Stamped). l ++ c) (append_assoc xs (ys ++ a) b) ∙ append_assoc xs ((ys ++ a) ++ b) c

-- one thing that is seen, where that holds of those after it
one_front : (seen : Observation) (time luns : ℕ) (infers : Bool) (state : TraceState) (later : List Observed) (xs ys : List Stamped)
    → ((state : TraceState) (ys : List Stamped) → inferred luns infers state (xs ++ ys) later ≡ xs ++ inferred luns infers state ys later)
    → inferred_by seen time luns infers state later (xs ++ ys) (λ state stamped. inferred luns infers state stamped later)
    ≡ xs ++ inferred_by seen time luns infers state later ys (λ state stamped. inferred luns infers state stamped later)
one_front (observation.Item item) time luns infers state later xs ys front =
    let state_then = state_after infers state item in
    ap (λ (l : List Stamped). inferred luns infers state_then l later) (shown_front infers state time item xs ys)
    ∙ front state_then (with_shown infers state time item ys)
one_front (observation.Released ce) time luns infers state later xs ys front =
    let more = rise_stamps time (rise_of infers state luns ce later) in
    let state_then = after_rise (rise_of infers state luns ce later) state in
    ap (λ (l : List Stamped). inferred luns infers state_then l later) (append_assoc xs ys more) ∙ front state_then (ys ++ more)

inferred_front : (luns : ℕ) (infers : Bool) (state : TraceState) (xs ys : List Stamped) (observed : List Observed)
    → inferred luns infers state (xs ++ ys) observed ≡ xs ++ inferred luns infers state ys observed
inferred_front luns infers state xs ys [] = refl
inferred_front luns infers state xs ys (o ∷ later) =
    one_front o.observation o.time luns infers state later xs ys (λ state ys. inferred_front luns infers state xs ys later)

-- items that don't hang on those before them, or a refusal
made_front : {A : Type 0} (r : Result A CaptureFault) (items : List Stamped → A → List Stamped) (xs ys : List Stamped)
    → ((x : A) → items (xs ++ ys) x ≡ xs ++ items ys x)
    → (r >>= λ x. Ok (items (xs ++ ys) x)) ≡ in_front xs (r >>= λ x. Ok (items ys x))
made_front (Ok x) items xs ys same = ap (λ (l : List Stamped). Ok l) (same x)
made_front (Err e) items xs ys same = refl

shown_items_front : (r : Result Shown CaptureFault) (setup : Setup) (xs ys : List Stamped)
    → (r >>= λ shown. Ok (items_after setup (xs ++ ys) shown)) ≡ in_front xs (r >>= λ shown. Ok (items_after setup ys shown))
shown_items_front r setup xs ys =
    made_front r (items_after setup) xs ys
    (λ shown. inferred_front setup.geometry.luns (not shown.tells_readies) (fresh setup.geometry setup.targets) xs ys shown.observed)

traced_front : {A : Type 0} (t : Tracer A) (xs ys : List Stamped) (told : List Told) → traced t (xs ++ ys) told ≡ in_front xs (traced t ys told)
traced_front t xs ys told =
    made_front (capturing t.sources.items t.sampler t.observed.items told) (inferred_on t.inferring) xs ys
    (λ observed. inferred_front t.inferring.luns t.inferring.infers t.inferring.state xs ys observed)

dump_front : {A : Type 0} (dump : Option (DumpReader A)) (setup : Setup) (head : List ℕ) (xs ys : List Stamped) (rest : List ℕ)
    → comes_dump dump setup head (xs ++ ys) rest ≡ in_front xs (comes_dump dump setup head ys rest)
dump_front None setup head xs ys rest = shown_items_front (shown_in setup (head ++ rest)) setup xs ys
dump_front (Some d) setup head xs ys rest = traced_front d.tracer xs ys (told_at d.widths d.standing (d.left.items ++ rest))

table_front : {A : Type 0} (table : Option (TableReader A)) (setup : Setup) (head : List ℕ) (xs ys : List Stamped) (rest : List ℕ)
    → comes_table table setup head (xs ++ ys) rest ≡ in_front xs (comes_table table setup head ys rest)
table_front None setup head xs ys rest = shown_items_front (shown_in_csv setup (head ++ rest)) setup xs ys
table_front (Some t) setup head xs ys rest =
    traced_front t.tracer xs ys (csv.told_at t.standing t.names.items (last_of t.has_last t.last.items) (t.left.items ++ rest))

front_as : {A : Type 0} (f : CaptureForm) (dump : Option (DumpReader A)) (table : Option (TableReader A)) (setup : Setup) (head : List ℕ) (xs ys : List Stamped) (rest : List ℕ)
    → comes_as f dump table setup head (xs ++ ys) rest ≡ in_front xs (comes_as f dump table setup head ys rest)
front_as form.Dump dump table setup head xs ys rest = dump_front dump setup head xs ys rest
front_as form.Table dump table setup head xs ys rest = table_front table setup head xs ys rest

pub keeps_front : {A : Type 0} (r : CaptureReader A) → KeepsFront r
keeps_front r xs ys rest = front_as r.setup.now.form r.dump r.table r.setup.now r.head.items xs ys rest
