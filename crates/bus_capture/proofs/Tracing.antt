-- A capture that is read in pieces comes to what the whole text does.
use Rattle.std.proofs.Common.{◌≡◌, ◌≤◌, ◌+◌, ◌*◌, ◌/◌, ◌%◌, ℕ, zero, suc, Bool, true, false, List, [], ◌∷◌, ◌++◌, length, take, drop, Option, Some, None, Result, Ok, Err, refl, ap, sym, ◌∙◌, subst, arith, cond, eqb}
use Rattle.std.proofs.lemmas.List.{append_assoc, append-nil, take-append-drop}
use Rattle.std.specs.Prelude.{OnOk, IfErr}
use Rattle.onfi_cycle.specs.declared.item.Item.{Item}
use Rattle.vcd_text.specs.declared.fault.LineFault.{LineFault}
use Rattle.vcd_text.specs.declared.tokens.Level.{Level}
use Rattle.vcd_text.specs.declared.body.Body.{Body}
use Rattle.vcd_text.specs.declared.body.Standing.{Standing}
use Rattle.vcd_text.specs.declared.reading.Dump.{Dump}
use Rattle.vcd_text.specs.Tokens.{◌>>=◌}
use Rattle.vcd_text.specs.Words.{Word, words_from, words_left, lines_from, IsCut, GoesOn}
use Rattle.vcd_text.specs.Header.{Read, header, is_unended}
use Rattle.vcd_text.specs.Body.{Widths, Told, Time, Change, told_from}
use Rattle.vcd_text.specs.Shown.{told_at, told_before, told_left, place_of, standing_of}
use Rattle.vcd_text.specs.Dumps.{read_of, beginning}
use Rattle.vcd_text.proofs.Going.{told_joins, before_none}
use Rattle.vcd_text.proofs.Headers.{with_more, header_joins, header_fails}
use Rattle.csv_text.specs.declared.body.Standing.{Standing as TableStanding}
use Rattle.csv_text.specs.Rows.{rows, AreLines, MayFollow as MayFollowLines}
use Rattle.csv_text.specs.Shown.{told_at as table_told}
use Rattle.csv_text.specs.Table.{table_of}
use Rattle.csv_text.specs.Table as table
use Rattle.csv_text.specs.Body.{told}
use Rattle.bus_signals.specs.declared.source.Source.{Source}
use Rattle.bus_signals.specs.declared.role.Role.TheVariants as role
use Rattle.bus_signals.specs.Roles.{carriers_of, sources_of}
use Rattle.bus_capture.specs.declared.fault.CaptureFault.{CaptureFault}
use Rattle.bus_capture.specs.declared.fault.CaptureFault.TheVariants.{File}
use Rattle.bus_capture.specs.declared.fault.CaptureRefusal.{CaptureRefusal}
use Rattle.bus_capture.specs.declared.sampling.Strobe.TheVariants as strobe
use Rattle.bus_capture.specs.declared.sampling.Seen.{Seen}
use Rattle.bus_capture.specs.declared.sampler.Observation.TheVariants as observation
use Rattle.bus_capture.specs.declared.sampler.Observed.{Observed}
use Rattle.bus_capture.specs.declared.sampler.Sampler.{Sampler}
use Rattle.bus_capture.specs.declared.inferring.Stamped.{Stamped}
use Rattle.bus_capture.specs.declared.inferring.Inferring.{Inferring}
use Rattle.bus_capture.specs.declared.tracer.Tracer.{Tracer}
use Rattle.bus_capture.specs.declared.reading.Setup.{Setup}
use Rattle.bus_capture.specs.declared.reading.CaptureForm.TheVariants as form
use Rattle.bus_capture.specs.Sampling.{level, rises, item_of, ready_of}
use Rattle.bus_capture.specs.Capturing.{with_item, with_release, with_releases, with_readies, with_seen, output_time, at_time, strobe_seen, settled, last_seen, closed, later, changed, capturing, in_roles, sources_in, told_items, tells_readies, IsRefusalOf}
use Rattle.bus_capture.specs.Inferring.{items_after, captured_by}
use Rattle.bus_capture.specs.Tracing.{MayFollow, inferred_on, traced, items_told, read_after, table_read}

pub follows_none : (is_last : Bool) → MayFollow is_last []
follows_none true = refl
follows_none false = tt

-- ---- what is seen stands behind what was seen before

abbrev in_front : List Observed → Result (List Observed) CaptureFault → Result (List Observed) CaptureFault
in_front xs (Ok ys) = Ok (xs ++ ys)
in_front xs (Err e) = Err e

item_front : (time : ℕ) (o : Option Item) (xs ys : List Observed) → with_item time o (xs ++ ys) ≡ xs ++ with_item time o ys
item_front time None xs ys = refl
item_front time (Some i) xs ys = append_assoc xs ys (record { time = time; observation = observation.Item i } ∷ [])

readies_front : (caches : Bool) (time : ℕ) (before after : List Level) (xs ys : List Observed) (count n : ℕ) → with_readies caches time before after (xs ++ ys) count n ≡ xs ++ with_readies caches time before after ys count n
readies_front caches time before after xs ys zero n = refl
readies_front caches time before after xs ys (suc count) n =
    ap (λ os. with_readies caches time before after os count (n + 1)) (item_front time (ready_of caches before after (n / 4) (n % 4)) xs ys)
    ∙ readies_front caches time before after xs (with_item time (ready_of caches before after (n / 4) (n % 4)) ys) count (n + 1)

release_front : (b : Bool) (o : Observed) (xs ys : List Observed) → cond b ((xs ++ ys) ++ o ∷ []) (xs ++ ys) ≡ xs ++ cond b (ys ++ o ∷ []) ys
release_front true o xs ys = append_assoc xs ys (o ∷ [])
release_front false o xs ys = refl

releases_front : (time : ℕ) (before after : List Level) (xs ys : List Observed) (count n : ℕ) → with_releases time before after (xs ++ ys) count n ≡ xs ++ with_releases time before after ys count n
releases_front time before after xs ys zero n = refl
releases_front time before after xs ys (suc count) n =
    ap (λ os. with_releases time before after os count (n + 1))
    (release_front (rises (level before (role.ReadyBusy n)) (level after (role.ReadyBusy n))) (record { time = time; observation = observation.Released n }) xs ys)
    ∙ releases_front time before after xs (with_release time before after n ys) count (n + 1)

seen_front : (s : Sampler) (written read : Seen) (xs ys : List Observed) → with_seen s written read (xs ++ ys) ≡ xs ++ with_seen s written read ys
seen_front s written read xs ys =
    let w = item_front s.time (item_of written) xs ys in
    let r = item_front (output_time s) (item_of read) xs (with_item s.time (item_of written) ys) in
    let both : with_item (output_time s) (item_of read) (with_item s.time (item_of written) (xs ++ ys)) ≡ xs ++ with_item (output_time s) (item_of read) (with_item s.time (item_of written) ys) = ap (with_item (output_time s) (item_of read)) w ∙ r in
    ap (λ os. with_releases s.time s.before.of s.after.of (with_readies s.caches s.time s.before.of s.after.of os (4 * s.targets) 0) s.targets 0) both
    ∙ (ap (λ os. with_releases s.time s.before.of s.after.of os s.targets 0)
    (readies_front s.caches s.time s.before.of s.after.of xs (with_item (output_time s) (item_of read) (with_item s.time (item_of written) ys)) (4 * s.targets) 0)
    ∙ releases_front s.time s.before.of s.after.of xs (with_readies s.caches s.time s.before.of s.after.of (with_item (output_time s) (item_of read) (with_item s.time (item_of written) ys)) (4 * s.targets) 0) s.targets 0)

settled_front : (s : Sampler) (xs ys : List Observed) → settled s (xs ++ ys) ≡ in_front xs (settled s ys)
settled_front s xs ys = at (at_time s.time (strobe_seen s strobe.Write s.we)) (at_time s.time (strobe_seen s strobe.Read s.re))
  where
    at : (w r : Result Seen CaptureFault) → (w >>= λ written. r >>= λ read. Ok (with_seen s written read (xs ++ ys))) ≡ in_front xs (w >>= λ written. r >>= λ read. Ok (with_seen s written read ys))
    at (Err e) r = refl
    at (Ok written) (Err e) = refl
    at (Ok written) (Ok read) = ap Ok (seen_front s written read xs ys)

closed_front : (s : Sampler) (xs ys : List Observed) → closed s (xs ++ ys) ≡ in_front xs (closed s ys)
closed_front s xs ys = at (at_time s.time (last_seen s))
  where
    at : (r : Result Seen CaptureFault) → (r >>= λ read. Ok (with_item (output_time s) (item_of read) (xs ++ ys))) ≡ in_front xs (r >>= λ read. Ok (with_item (output_time s) (item_of read) ys))
    at (Err e) = refl
    at (Ok read) = ap Ok (item_front (output_time s) (item_of read) xs ys)

ended_front : (s : Sampler) (xs ys : List Observed) → (settled s (xs ++ ys) >>= λ more. closed (later s s.time) more) ≡ in_front xs (settled s ys >>= λ more. closed (later s s.time) more)
ended_front s xs ys = ap (λ r. r >>= λ more. closed (later s s.time) more) (settled_front s xs ys) ∙ at (settled s ys)
  where
    at : (r : Result (List Observed) CaptureFault) → (in_front xs r >>= λ more. closed (later s s.time) more) ≡ in_front xs (r >>= λ more. closed (later s s.time) more)
    at (Err e) = refl
    at (Ok more) = closed_front (later s s.time) xs more

capturing_front : (sources : List Source) (s : Sampler) (xs ys : List Observed) (ts : List Told) → capturing sources s (xs ++ ys) ts ≡ in_front xs (capturing sources s ys ts)
capturing_front sources s xs ys [] = ended_front s xs ys
capturing_front sources s xs ys (Err f ∷ ts) = refl
capturing_front sources s xs ys (Ok (Change code bits) ∷ ts) = capturing_front sources (changed sources code bits s) xs ys ts
capturing_front sources s xs ys (Ok (Time time) ∷ ts) =
    at (eqb time s.time) (capturing_front sources s xs ys ts) (settled s ys) (settled_front s xs ys) (λ more. capturing_front sources (later s time) xs more ts)
  where
    at : (b : Bool) → capturing sources s (xs ++ ys) ts ≡ in_front xs (capturing sources s ys ts) → (now : Result (List Observed) CaptureFault) → settled s (xs ++ ys) ≡ in_front xs now
        → ((more : List Observed) → capturing sources (later s time) (xs ++ more) ts ≡ in_front xs (capturing sources (later s time) more ts))
        → cond b (capturing sources s (xs ++ ys) ts) (settled s (xs ++ ys) >>= λ more. capturing sources (later s time) more ts)
        ≡ in_front xs (cond b (capturing sources s ys ts) (now >>= λ more. capturing sources (later s time) more ts))
    at true same now settles next = same
    at false same (Err e) settles next = ap (λ r. r >>= λ more. capturing sources (later s time) more ts) settles
    at false same (Ok more) settles next = ap (λ r. r >>= λ more. capturing sources (later s time) more ts) settles ∙ next more

capturing_all : (sources : List Source) (s : Sampler) (xs : List Observed) (ts : List Told) → capturing sources s xs ts ≡ in_front xs (capturing sources s [] ts)
capturing_all sources s xs ts = ap (λ os. capturing sources s os ts) (sym (append-nil xs)) ∙ capturing_front sources s xs [] ts

-- ---- items that are handed on

abbrev items_of : Inferring → List Stamped → Result (List Observed) CaptureFault → Result (List Stamped) CaptureFault
items_of i stamped seen = seen >>= λ observed. Ok (inferred_on i stamped observed)

same_items : (i j : Inferring) (old new : List Stamped) (xs ys : List Observed) (seen : Result (List Observed) CaptureFault)
    → ((more : List Observed) → inferred_on i old (xs ++ more) ≡ inferred_on j new (ys ++ more)) → items_of i old (in_front xs seen) ≡ items_of j new (in_front ys seen)
same_items i j old new xs ys (Ok more) goes = ap Ok (goes more)
same_items i j old new xs ys (Err e) goes = refl

pub handed : (sources now_sources : List Source) (s now_s : Sampler) (i j : Inferring) (old new : List Stamped) (xs ys : List Observed) → now_sources ≡ sources → now_s ≡ s
    → ((more : List Observed) → inferred_on i old (xs ++ more) ≡ inferred_on j new (ys ++ more))
    → (ts : List Told) → items_of i old (capturing sources s xs ts) ≡ items_of j new (capturing now_sources now_s ys ts)
handed sources now_sources s now_s i j old new xs ys same_sources same_s goes ts =
    ap (items_of i old) (capturing_all sources s xs ts)
    ∙ (same_items i j old new xs ys (capturing sources s [] ts) goes
    ∙ (ap (items_of j new) (sym (capturing_all sources s ys ts))
    ∙ (ap (λ sources. items_of j new (capturing sources s ys ts)) (sym same_sources) ∙ ap (λ s. items_of j new (capturing now_sources s ys ts)) (sym same_s))))

ended_as : (s after : Sampler) (os more : List Observed) → settled s os ≡ Ok more → after ≡ later s s.time → (settled s os >>= λ more. closed (later s s.time) more) ≡ closed after more
ended_as s after os more settles is = ap (λ r. r >>= λ more. closed (later s s.time) more) settles ∙ ap (λ a. closed a more) (sym is)

pub closes : (s after : Sampler) (os more now : List Observed) → settled s os ≡ Ok more → after ≡ later s s.time → closed after more ≡ Ok now → (settled s os >>= λ more. closed (later s s.time) more) ≡ Ok now
closes s after os more now settles is done = ended_as s after os more settles is ∙ done

pub closing_fails : (s after : Sampler) (os more : List Observed) (e : CaptureRefusal) → settled s os ≡ Ok more → after ≡ later s s.time → IsRefusalOf e (closed after more)
    → IsRefusalOf e (settled s os >>= λ more. closed (later s s.time) more)
closing_fails s after os more e settles is why = subst (IsRefusalOf e) (sym (ended_as s after os more settles is)) why

drop_all : {X : Type 0} (n : ℕ) (xs : List X) → n ≡ length xs → drop n xs ≡ []
drop_all zero [] e = refl
drop_all zero (x ∷ xs) e = absurd (omega (arith, e))
drop_all (suc n) [] e = refl
drop_all (suc n) (x ∷ xs) e = drop_all n xs (omega (arith, e))

pub all_dropped : {X : Type 0} (n : ℕ) (xs : List X) → n ≡ length xs → drop n xs ≡ []
all_dropped n xs e = drop_all n xs e

pub drop_next : {X : Type 0} (n : ℕ) (xs : List X) (x : X) (ys : List X) → drop n xs ≡ x ∷ ys → (drop (n + 1) xs ≡ ys) × (n + 1 ≤ length xs)
drop_next zero [] x ys e = absurd cc
drop_next zero (z ∷ xs) x ys e = (cc, omega arith)
drop_next (suc n) [] x ys e = absurd cc
drop_next (suc n) (z ∷ xs) x ys e = let next = drop_next n xs x ys e in
    let one : suc n + 1 ≡ suc (n + 1) = omega arith in
    (ap (λ k. drop k (z ∷ xs)) one ∙ next.0, omega (arith, next.1))

pub finishes : (sources : List Source) (s : Sampler) (xs now : List Observed) (i j : Inferring) (old new : List Stamped) (count : ℕ) → capturing sources s xs [] ≡ Ok now → count ≡ length now
    → inferred_on i old (now ++ []) ≡ inferred_on j new (drop count now ++ []) → items_of i old (capturing sources s xs []) ≡ Ok new
finishes sources s xs now i j old new count settles all goes =
    ap (items_of i old) settles
    ∙ ap Ok (ap (inferred_on i old) (sym (append-nil now)) ∙ (goes ∙ ap (λ os. inferred_on j new (os ++ [])) (drop_all count now all)))

-- ---- the text of a dump

pub stands : (widths : Widths) (st : Standing) (b : Body) (left whole tail rest : List ℕ) → standing_of b ≡ st → b.words.rest.now ≡ whole → left ≡ whole ++ tail → IsCut whole
    → told_at widths st (left ++ rest) ≡ told_before widths b (words_from (lines_from b.words.line b.words.rest.now) [] (tail ++ rest))
stands widths st b left whole tail rest standing is joined cut =
    ap (λ st. told_at widths st (left ++ rest)) (sym standing)
    ∙ (ap (λ text. told_at widths (standing_of b) (text ++ rest)) joined
    ∙ (ap (told_at widths (standing_of b)) (append_assoc whole tail rest)
    ∙ (ap (λ whole. told_at widths (standing_of b) (whole ++ (tail ++ rest))) (sym is)
    ∙ told_joins widths b (tail ++ rest) (subst IsCut (sym is) cut))))

pub stands_last : (widths : Widths) (st : Standing) (b : Body) (left : List ℕ) → standing_of b ≡ st → b.words.rest.now ≡ left → told_at widths st (left ++ []) ≡ told_before widths b []
stands_last widths st b left standing is =
    ap (λ st. told_at widths st (left ++ [])) (sym standing)
    ∙ (ap (told_at widths (standing_of b)) (append-nil left ∙ sym is) ∙ sym (before_none widths b))

-- ---- a header that is read

read_whole : (setup : Setup) (stamped : List Stamped) (text : List ℕ) (r : Read) → header text ≡ Ok r
    → captured_by form.Dump setup stamped text ≡ (sources_in setup r >>= λ sources. items_told setup sources stamped (told_from r.header.widths beginning r.line r.rest))
read_whole setup stamped text r is = rw is (at (sources_in setup r))
  where
    on : (sources : List Source) (seen : Result (List Observed) CaptureFault)
        → ((seen >>= λ observed. Ok (record { observed = observed; tells_readies = tells_readies sources })) >>= λ shown. Ok (items_after setup stamped shown))
        ≡ (seen >>= λ observed. Ok (items_after setup stamped (record { observed = observed; tells_readies = tells_readies sources })))
    on sources (Ok observed) = refl
    on sources (Err e) = refl

    at : (found : Result (List Source) CaptureFault)
        → ((found >>= λ sources. told_items setup sources (told_from r.header.widths beginning r.line r.rest) >>= λ observed. Ok (record { observed = observed; tells_readies = tells_readies sources }))
        >>= λ shown. Ok (items_after setup stamped shown))
        ≡ (found >>= λ sources. items_told setup sources stamped (told_from r.header.widths beginning r.line r.rest))
    at (Ok sources) = on sources (told_items setup sources (told_from r.header.widths beginning r.line r.rest))
    at (Err e) = refl

pub read_more : (setup : Setup) (stamped : List Stamped) (whole more : List ℕ) (r : Read) → IsCut whole → header whole ≡ Ok r
    → captured_by form.Dump setup stamped (whole ++ more) ≡ read_after setup stamped r (words_from (lines_from 1 whole) [] more)
read_more setup stamped whole more r cut is =
    read_whole setup stamped (whole ++ more) (with_more r (words_from (lines_from 1 whole) [] more)) (header_joins whole more r cut is)

pub read_last : (setup : Setup) (stamped : List Stamped) (whole : List ℕ) (r : Read) → header whole ≡ Ok r → captured_by form.Dump setup stamped whole ≡ read_after setup stamped r []
read_last setup stamped whole r is =
    read_whole setup stamped whole r is
    ∙ ap (λ ws. sources_in setup r >>= λ sources. items_told setup sources stamped (told_from r.header.widths beginning r.line ws)) (sym (append-nil r.rest))

pub fails_last : (setup : Setup) (stamped : List Stamped) (text : List ℕ) (f : LineFault) → header text ≡ Err f → captured_by form.Dump setup stamped text ≡ Err (File f)
fails_last setup stamped text f is = rw is refl

pub fails_more : (setup : Setup) (stamped : List Stamped) (whole more : List ℕ) (f : LineFault) → IsCut whole → is_unended f.fault ≡ false → header whole ≡ Err f
    → captured_by form.Dump setup stamped (whole ++ more) ≡ Err (File f)
fails_more setup stamped whole more f cut ended is = fails_last setup stamped (whole ++ more) f (header_fails whole more f cut ended is)

-- ---- a CSV

pub table_whole : (setup : Setup) (stamped : List Stamped) (text : List ℕ) (t : table.Table) → table_of (rows text) ≡ Ok t → captured_by form.Table setup stamped text ≡ table_read setup stamped t
table_whole setup stamped text t is = rw is (at (in_roles (sources_of setup.targets (carriers_of setup.mappings.now t.columns.variables))))
  where
    on : (sources : List Source) (seen : Result (List Observed) CaptureFault)
        → ((seen >>= λ observed. Ok (record { observed = observed; tells_readies = tells_readies sources })) >>= λ shown. Ok (items_after setup stamped shown))
        ≡ (seen >>= λ observed. Ok (items_after setup stamped (record { observed = observed; tells_readies = tells_readies sources })))
    on sources (Ok observed) = refl
    on sources (Err e) = refl

    at : (found : Result (List Source) CaptureFault)
        → ((found >>= λ sources. told_items setup sources (told t) >>= λ observed. Ok (record { observed = observed; tells_readies = tells_readies sources }))
        >>= λ shown. Ok (items_after setup stamped shown))
        ≡ (found >>= λ sources. items_told setup sources stamped (told t))
    at (Ok sources) = on sources (told_items setup sources (told t))
    at (Err e) = refl

pub table_fails : (setup : Setup) (stamped : List Stamped) (text : List ℕ) (f : LineFault) → table_of (rows text) ≡ Err f → captured_by form.Table setup stamped text ≡ Err (File f)
table_fails setup stamped text f is = rw is refl

-- a table as it is read on
pub table_begins : {A : Type 0} (setup : Setup) (t : table.Table) (sources : List Source) (tracer : Tracer A) (st now_st : TableStanding) (names now_names text tail left rest : List ℕ) (stamped : List Stamped)
    → in_roles (sources_of setup.targets (carriers_of setup.mappings.now t.columns.variables)) ≡ Ok sources
    → ((stamped : List Stamped) (told : List Told) → traced tracer stamped told ≡ items_told setup sources stamped told)
    → told t ≡ table_told st names None (text ++ (tail ++ rest)) → now_st ≡ st → now_names ≡ names ++ [] → left ≡ text ++ tail
    → table_read setup stamped t ≡ traced tracer stamped (table_told now_st now_names None (left ++ rest))
table_begins setup t sources tracer st now_st names now_names text tail left rest stamped found law tells same_st same_names joined =
    ap (λ (found : Result (List Source) CaptureFault). found >>= λ sources. items_told setup sources stamped (told t)) found
    ∙ (sym (law stamped (told t))
    ∙ ap (traced tracer stamped) (tells ∙ sym (
    ap (λ s. table_told s now_names None (left ++ rest)) same_st
    ∙ (ap (λ n. table_told st n None (left ++ rest)) (same_names ∙ append-nil names)
    ∙ (ap (λ l. table_told st names None (l ++ rest)) joined ∙ ap (table_told st names None) (append_assoc text tail rest))))))

pub lines_follow : (text more : List ℕ) → AreLines text → MayFollowLines text more
lines_follow text [] lines = tt
lines_follow text (b ∷ more) lines = lines

pub same_refusal : {A : Type 0} (e : CaptureRefusal) (x y : Result A CaptureFault) → x ≡ y → IsRefusalOf e y → IsRefusalOf e x
same_refusal e x y same is = subst (IsRefusalOf e) (sym same) is

-- the body of a dump whose sources are found
pub begins : {A : Type 0} (setup : Setup) (d : Dump A) (sources : List Source) (t : Tracer A) → sources_in setup (read_of d) ≡ Ok sources → place_of d.body ≡ beginning
    → ((stamped : List Stamped) (told : List Told) → traced t stamped told ≡ items_told setup sources stamped told)
    → (stamped : List Stamped) (more : List Word) → read_after setup stamped (read_of d) more ≡ traced t stamped (told_before d.header.widths.entries d.body more)
begins setup d sources t found place is stamped more =
    rw found (ap (λ place. items_told setup sources stamped (told_from d.header.widths.entries place d.body.line (words_left d.body.words ++ more))) (sym place)
    ∙ sym (is stamped (told_before d.header.widths.entries d.body more)))

-- as it is read on
pub begins_at : {A : Type 0} (setup : Setup) (d : Dump A) (sources : List Source) (t : Tracer A) (st : Standing) (left tail : List ℕ) → st ≡ standing_of d.body → sources_in setup (read_of d) ≡ Ok sources → place_of d.body ≡ beginning
    → ((stamped : List Stamped) (told : List Told) → traced t stamped told ≡ items_told setup sources stamped told) → left ≡ d.body.words.rest.now ++ tail → IsCut d.body.words.rest.now
    → (stamped : List Stamped) (rest : List ℕ) → read_after setup stamped (read_of d) (words_from (lines_from d.body.words.line d.body.words.rest.now) [] (tail ++ rest))
    ≡ traced t stamped (told_at d.header.widths.entries st (left ++ rest))
begins_at setup d sources t st left tail standing found place is joined cut stamped rest =
    begins setup d sources t found place is stamped (words_from (lines_from d.body.words.line d.body.words.rest.now) [] (tail ++ rest))
    ∙ ap (traced t stamped) (sym (stands d.header.widths.entries st d.body left d.body.words.rest.now tail rest (sym standing) refl joined cut))

-- the rest of a dump whose words are read, where it ends
pub ends : {A : Type 0} (widths : Widths) (st : Standing) (b now : Body) (left : List ℕ) (t later : Tracer A) (stamped : List Stamped) (ts : List Told) → standing_of b ≡ st → b.words.rest.now ≡ left
    → ((stamped : List Stamped) (more : List Word) → traced t stamped (told_before widths b more) ≡ traced later stamped (told_before widths now more)) → told_left widths now ≡ ts
    → traced t stamped (told_at widths st (left ++ [])) ≡ traced later stamped ts
ends widths st b now left t later stamped ts standing is goes told =
    ap (traced t stamped) (stands_last widths st b left standing is) ∙ (goes stamped [] ∙ ap (traced later stamped) (before_none widths now ∙ told))

-- and where its text goes on
pub goes_on : {A : Type 0} (widths : Widths) (st now_st : Standing) (b now : Body) (left now_left whole tail : List ℕ) (t later : Tracer A) → standing_of b ≡ st → b.words.rest.now ≡ whole → left ≡ whole ++ tail
    → IsCut whole → now_st ≡ standing_of now → now_left ≡ now.words.rest.now ++ tail → GoesOn b.words now.words
    → ((stamped : List Stamped) (more : List Word) → traced t stamped (told_before widths b more) ≡ traced later stamped (told_before widths now more))
    → (stamped : List Stamped) (rest : List ℕ) → traced t stamped (told_at widths st (left ++ rest)) ≡ traced later stamped (told_at widths now_st (now_left ++ rest))
goes_on widths st now_st b now left now_left whole tail t later standing is joined cut now_standing now_joined moved goes stamped rest =
    ap (traced t stamped) (stands widths st b left whole tail rest standing is joined cut)
    ∙ (goes stamped (words_from (lines_from b.words.line b.words.rest.now) [] (tail ++ rest))
    ∙ (ap (λ line. traced later stamped (told_before widths now (words_from line [] (tail ++ rest)))) (sym moved.lines)
    ∙ ap (traced later stamped) (sym (stands widths now_st now now_left now.words.rest.now tail rest (sym now_standing) refl now_joined (moved.cut (subst IsCut (sym is) cut))))))

pub on_ok : {X E : Type 0} (r : Result X E) (P Q : Type 0) → (P → Q) → OnOk r P → OnOk r Q
on_ok (Ok x) P Q f h = f h
on_ok (Err e) P Q f h = tt

pub if_err : {X E : Type 0} (r : Result X E) (P Q : E → Type 0) → ((e : E) → P e → Q e) → IfErr r P → IfErr r Q
if_err (Ok x) P Q f h = tt
if_err (Err e) P Q f h = f e h

pub two_pieces : (n : ℕ) (head rest : List ℕ) → head ++ rest ≡ take n head ++ (drop n head ++ rest)
two_pieces n head rest = ap (λ text. text ++ rest) (sym (take-append-drop n head)) ∙ append_assoc (take n head) (drop n head) rest

pub joined_again : (n : ℕ) (text : List ℕ) → text ≡ take n text ++ drop n text
joined_again n text = sym (take-append-drop n text)
