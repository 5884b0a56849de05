-- The items of a capture are on one of four targets, and of one of four LUNs.
use Rattle.std.proofs.Common.{◌≡◌, ◌≤◌, ◌<◌, ◌+◌, ◌*◌, ◌/◌, ◌%◌, ℕ, zero, suc, true, false, Bool, List, [], ◌∷◌, ◌++◌, Option, Some, None, Result, Ok, Err, refl, subst, arith, cond, drop}
use Rattle.std.proofs.lemmas.Nat.{mod_below}
use Rattle.onfi_cycle.specs.declared.item.Item.{Item}
use Rattle.onfi_cycle.specs.declared.item.Item.TheVariants.{Cyc, Rdy, Ard}
use Rattle.trace_faults.specs.declared.trace_state.TraceState.{TraceState}
use Rattle.trace_faults.specs.ShownReadies.{ready_before, array_ready_before, with_ready}
use Rattle.trace_faults.specs.Inside.{IsInside}
use Rattle.trace_faults.proofs.Inside.{ready_inside, array_ready_inside}
use Rattle.vcd_text.specs.declared.tokens.Level.{Level}
use Rattle.vcd_text.specs.declared.tokens.Level.TheVariants.{Low, High, Unknown}
use Rattle.vcd_text.specs.Tokens.{◌>>=◌}
use Rattle.bus_capture.specs.declared.fault.BusFault.{BusFault}
use Rattle.bus_signals.specs.declared.role.Role.TheVariants as role
use Rattle.bus_capture.specs.declared.sampling.Seen.{Seen}
use Rattle.bus_capture.specs.declared.sampling.Seen.TheVariants.{Nothing, Unselected, Sampled}
use Rattle.bus_capture.specs.declared.sampling.Strobe.{Strobe}
use Rattle.bus_capture.specs.declared.sampling.Strobe.TheVariants as strobe
use Rattle.bus_capture.specs.declared.sampler.Observation.TheVariants as observation
use Rattle.bus_capture.specs.declared.sampler.Observed.{Observed}
use Rattle.bus_capture.specs.declared.sampler.Sampler.{Sampler}
use Rattle.bus_capture.specs.declared.sampler.Strobing.{Strobing}
use Rattle.bus_capture.specs.declared.inferring.Stamped.{Stamped}
use Rattle.bus_capture.specs.Sampling.{level, with_enable, enabled_from, kind_of, byte_of, apart, cycle_of, cycle_if, rises, is_lost, lost_if, line_of, other_line, seen_if, is_short, steady, item_of, falls, is_high, array_is_done, ready_of}
use Rattle.bus_capture.specs.Capturing.{with_item, with_release, with_releases, with_readies, at_time, with_seen, output_time, late_of, is_taken, strobe_seen, settled, last_seen, closed}
use Rattle.bus_capture.specs.Telling.{told_at}
use Rattle.bus_capture.specs.Inferring.{stamps, with_shown, is_waiting, is_awaited, lun_fails, release_of, lun_release_of, rise_of, rise_stamps, fails_within}
use Rattle.bus_capture.specs.Inside.{AreInside, IsSeenInside, AreSeenInside}

-- ---- results

bind_ok : {A B E : Type 0} (x : Result A E) (f : A → Result B E) (r : B) → (x >>= f) ≡ Ok r → (a : A) × (x ≡ Ok a) × (f a ≡ Ok r)
bind_ok (Ok a) f r h = (a, refl, h)
bind_ok (Err e) f r h = cc

same_ok : {A E : Type 0} (x y : A) → ◌≡◌ {A = Result A E} (Ok x) (Ok y) → x ≡ y
same_ok x y h = cc

-- ---- what is seen

fine_more : (os : List Observed) (o : Observed) → AreSeenInside os → IsSeenInside o.observation → AreSeenInside (os ++ o ∷ [])
fine_more [] o rest here = (here, tt)
fine_more (x ∷ os) o rest here = (rest.0, fine_more os o rest.1 here)

fine_item : (time : ℕ) (o : Option Item) (os : List Observed) → ((i : Item) → o ≡ Some i → IsInside i) → AreSeenInside os → AreSeenInside (with_item time o os)
fine_item time None os here rest = rest
fine_item time (Some i) os here rest = fine_more os (record { time = time; observation = observation.Item i }) rest (here i refl)

fine_if : (b : Bool) (xs ys : List Observed) → AreSeenInside xs → AreSeenInside ys → AreSeenInside (cond b xs ys)
fine_if true xs ys x y = x
fine_if false xs ys x y = y

fine_releases : (time : ℕ) (before after : List Level) (os : List Observed) (count n : ℕ) → n + count ≤ 4 → AreSeenInside os → AreSeenInside (with_releases time before after os count n)
fine_releases time before after os zero n few rest = rest
fine_releases time before after os (suc count) n few rest =
    fine_releases time before after (with_release time before after n os) count (n + 1) (omega (arith, few))
    (fine_if (rises (level before (role.ReadyBusy n)) (level after (role.ReadyBusy n))) (os ++ record { time = time; observation = observation.Released n } ∷ []) os
    (fine_more os (record { time = time; observation = observation.Released n }) rest (omega (arith, few))) rest)

quarter : (n : ℕ) → n < 16 → n / 4 ≤ 3
quarter n few = omega (arith, few)

rest_of_four : (n : ℕ) → n % 4 ≤ 3
rest_of_four n = omega (arith, mod_below n 4 (omega arith))

some_of : (b : Bool) (x i : Item) (o : Option Item) → cond b (Some x) o ≡ Some i → IsInside x → (o ≡ Some i → IsInside i) → IsInside i
some_of true x i o h here rest = let same : x ≡ i = cc in subst IsInside same here
some_of false x i o h here rest = rest h

none_is : (i : Item) → None ≡ Some i → IsInside i
none_is i h = cc

model_ready : (caches : Bool) (before after : List Level) (ce lun : ℕ) (i : Item) → ce ≤ 3 → lun ≤ 3 → ready_of caches before after ce lun ≡ Some i → IsInside i
model_ready caches before after ce lun i few little h =
    some_of (falls (level before (role.Busy ce lun)) (level after (role.Busy ce lun))) (Rdy ce lun (record { last = is_high (level after (role.Failed ce lun)); before = false })) i
    (cond (array_is_done caches before after ce lun) (Some (Ard ce lun (is_high (level after (role.Failed ce lun))))) None)
    h (few, little)
    (λ g. some_of (array_is_done caches before after ce lun) (Ard ce lun (is_high (level after (role.Failed ce lun)))) i None g (few, little) (none_is i))

fine_readies : (caches : Bool) (time : ℕ) (before after : List Level) (os : List Observed) (count n : ℕ) → n + count ≤ 16 → AreSeenInside os → AreSeenInside (with_readies caches time before after os count n)
fine_readies caches time before after os zero n few rest = rest
fine_readies caches time before after os (suc count) n few rest =
    fine_readies caches time before after (with_item time (ready_of caches before after (n / 4) (n % 4)) os) count (n + 1) (omega (arith, few))
    (fine_item time (ready_of caches before after (n / 4) (n % 4)) os (λ i is. model_ready caches before after (n / 4) (n % 4) i (quarter n (omega (arith, few))) (rest_of_four n) is) rest)

-- ---- the chip that is enabled

abbrev IsBelow : ℕ → Option ℕ → Type 0
IsBelow n None = Unit {0}
IsBelow n (Some m) = m < n

enable_below : (l : Level) (n : ℕ) (enabled now : Option ℕ) → IsBelow n enabled → with_enable l n enabled ≡ Ok now → IsBelow (n + 1) now
enable_below Unknown n enabled now below h = cc
enable_below High n None now below h = subst (IsBelow (n + 1)) (same_ok None now h) tt
enable_below High n (Some m) now below h = subst (IsBelow (n + 1)) (same_ok (Some m) now h) (omega (arith, below))
enable_below Low n None now below h = subst (IsBelow (n + 1)) (same_ok (Some n) now h) (omega arith)
enable_below Low n (Some m) now below h = cc

below_more : (n most : ℕ) (o : Option ℕ) → n ≤ most → IsBelow n o → IsBelow most o
below_more n most None few below = tt
below_more n most (Some m) few below = omega (arith, few, below)

enabled_below : (levels : List Level) (count n most : ℕ) (enabled now : Option ℕ) → n + count ≤ most → IsBelow n enabled → enabled_from levels count n enabled ≡ Ok now → IsBelow most now
enabled_below levels zero n most enabled now few below h = below_more n most now (omega (arith, few)) (subst (IsBelow n) (same_ok enabled now h) below)
enabled_below levels (suc count) n most enabled now few below h =
    let k = bind_ok (with_enable (level levels (role.Enable n)) n enabled) (λ now. enabled_from levels count (n + 1) now) now h in
    enabled_below levels count (n + 1) most k.0 now (omega (arith, few)) (enable_below (level levels (role.Enable n)) n enabled k.0 below k.1) k.2

abbrev IsSeenFine : Seen → Type 0
IsSeenFine Nothing = Unit {0}
IsSeenFine Unselected = Unit {0}
IsSeenFine (Sampled c) = c.ce ≤ 3

cycle_fine : (strobe : Strobe) (ce : ℕ) (levels : List Level) (seen : Seen) → ce ≤ 3 → cycle_of strobe ce levels ≡ Ok seen → IsSeenFine seen
cycle_fine strobe ce levels seen few h =
    let a = bind_ok (apart (level levels (other_line strobe))) (λ _. kind_of strobe levels >>= λ kind. byte_of levels >>= λ byte. Ok (Sampled (record { ce = ce; kind = kind; byte = byte }))) seen h in
    let k = bind_ok (kind_of strobe levels) (λ kind. byte_of levels >>= λ byte. Ok (Sampled (record { ce = ce; kind = kind; byte = byte }))) seen a.2 in
    let b = bind_ok (byte_of levels) (λ byte. Ok (Sampled (record { ce = ce; kind = k.0; byte = byte }))) seen k.2 in
    subst IsSeenFine (same_ok (Sampled (record { ce = ce; kind = k.0; byte = b.0 })) seen b.2) few

cycle_if_fine : (strobe : Strobe) (n : ℕ) (enabled : Option ℕ) (levels : List Level) (seen : Seen) → n ≤ 4 → IsBelow n enabled → cycle_if strobe enabled levels ≡ Ok seen → IsSeenFine seen
cycle_if_fine strobe n None levels seen few below h = subst IsSeenFine (same_ok Unselected seen h) tt
cycle_if_fine strobe n (Some ce) levels seen few below h = cycle_fine strobe ce levels seen (omega (arith, few, below)) h

lost_fine : (enabled : Option ℕ) (seen : Seen) → lost_if enabled ≡ Ok seen → IsSeenFine seen
lost_fine None seen h = subst IsSeenFine (same_ok Nothing seen h) tt
lost_fine (Some ce) seen h = cc

choice : (b c : Bool) (x y z : Result Seen BusFault) (seen : Seen) → cond b x (cond c y z) ≡ Ok seen → (x ≡ Ok seen → IsSeenFine seen) → (y ≡ Ok seen → IsSeenFine seen) → (z ≡ Ok seen → IsSeenFine seen) → IsSeenFine seen
choice true c x y z seen h f g k = f h
choice false true x y z seen h f g k = g h
choice false false x y z seen h f g k = k h

cycle_taken_fine : (targets : ℕ) (strobe : Strobe) (levels : List Level) (seen : Seen) → targets ≤ 4 → (enabled_from levels targets 0 None >>= λ enabled. cycle_if strobe enabled levels) ≡ Ok seen → IsSeenFine seen
cycle_taken_fine targets strobe levels seen few r =
    let k = bind_ok (enabled_from levels targets 0 None) (λ enabled. cycle_if strobe enabled levels) seen r in
    cycle_if_fine strobe targets k.0 levels seen few (enabled_below levels targets 0 targets None k.0 (omega arith) tt k.1) k.2

seen_fine : (taken : Bool) (targets : ℕ) (strobe : Strobe) (driven : Bool) (before after : List Level) (seen : Seen) → targets ≤ 4 → seen_if taken targets strobe driven before after ≡ Ok seen → IsSeenFine seen
seen_fine taken targets strobe driven before after seen few h =
    choice taken (is_lost driven (level before (line_of strobe)) (level after (line_of strobe)))
    (enabled_from before targets 0 None >>= λ enabled. cycle_if strobe enabled before) (enabled_from before targets 0 None >>= λ enabled. lost_if enabled) (Ok Nothing) seen h
    (λ r. cycle_taken_fine targets strobe before seen few r)
    (λ r. let k = bind_ok (enabled_from before targets 0 None) (λ enabled. lost_if enabled) seen r in lost_fine k.0 seen k.2)
    (λ r. subst IsSeenFine (same_ok Nothing seen r) tt)

item_fine : (seen : Seen) (i : Item) → IsSeenFine seen → item_of seen ≡ Some i → IsInside i
item_fine Nothing i fine h = cc
item_fine Unselected i fine h = cc
item_fine (Sampled c) i fine h = let same : Cyc c ≡ i = cc in subst IsInside same fine

-- ---- all that is seen

at_time_ok : {A : Type 0} (time : ℕ) (x : Result A BusFault) (a : A) → at_time time x ≡ Ok a → x ≡ Ok a
at_time_ok time (Ok x) a h = cc
at_time_ok time (Err e) a h = cc

strobe_fine : (s : Sampler) (strobe : Strobe) (known : Strobing) (seen : Seen) → s.targets ≤ 4 → strobe_seen s strobe known ≡ Ok seen → IsSeenFine seen
strobe_fine s strobe known seen few h =
    let taken = is_taken (late_of s strobe) s strobe known in
    let k = bind_ok (steady s.targets strobe (is_short s.glitch s.time known.since) s.before.of s.after.of) (λ _. seen_if taken s.targets strobe known.driven s.before.of s.after.of) seen h in
    seen_fine taken s.targets strobe known.driven s.before.of s.after.of seen few k.2

pub settled_fine : (s : Sampler) (os now : List Observed) → s.targets ≤ 4 → AreSeenInside os → settled s os ≡ Ok now → AreSeenInside now
settled_fine s os now few rest h =
    let w = bind_ok (at_time s.time (strobe_seen s strobe.Write s.we)) (λ written. at_time s.time (strobe_seen s strobe.Read s.re) >>= λ read. Ok (with_seen s written read os)) now h in
    let r = bind_ok (at_time s.time (strobe_seen s strobe.Read s.re)) (λ read. Ok (with_seen s w.0 read os)) now w.2 in
    let written = strobe_fine s strobe.Write s.we w.0 few (at_time_ok s.time (strobe_seen s strobe.Write s.we) w.0 w.1) in
    let read = strobe_fine s strobe.Read s.re r.0 few (at_time_ok s.time (strobe_seen s strobe.Read s.re) r.0 r.1) in
    subst AreSeenInside (same_ok (with_seen s w.0 r.0 os) now r.2)
    (fine_releases s.time s.before.of s.after.of (with_readies s.caches s.time s.before.of s.after.of (with_item (output_time s) (item_of r.0) (with_item s.time (item_of w.0) os)) (4 * s.targets) 0) s.targets 0 (omega (arith, few))
    (fine_readies s.caches s.time s.before.of s.after.of (with_item (output_time s) (item_of r.0) (with_item s.time (item_of w.0) os)) (4 * s.targets) 0 (omega (arith, few))
    (fine_item (output_time s) (item_of r.0) (with_item s.time (item_of w.0) os) (λ i is. item_fine r.0 i read is)
    (fine_item s.time (item_of w.0) os (λ i is. item_fine w.0 i written is) rest))))

last_fine : (owed : Bool) (targets : ℕ) (levels : List Level) (seen : Seen) → targets ≤ 4 → cond owed (enabled_from levels targets 0 None >>= λ enabled. cycle_if strobe.Read enabled levels) (Ok Nothing) ≡ Ok seen → IsSeenFine seen
last_fine true targets levels seen few h = cycle_taken_fine targets strobe.Read levels seen few h
last_fine false targets levels seen few h = subst IsSeenFine (same_ok Nothing seen h) tt

pub closed_fine : (s : Sampler) (os now : List Observed) → s.targets ≤ 4 → AreSeenInside os → closed s os ≡ Ok now → AreSeenInside now
closed_fine s os now few rest h =
    let r = bind_ok (at_time s.time (last_seen s)) (λ read. Ok (with_item (output_time s) (item_of read) os)) now h in
    let read = last_fine s.re.owed s.targets s.before.of r.0 few (at_time_ok s.time (last_seen s) r.0 r.1) in
    subst AreSeenInside (same_ok (with_item (output_time s) (item_of r.0) os) now r.2) (fine_item (output_time s) (item_of r.0) os (λ i is. item_fine r.0 i read is) rest)

pub seen_drop : (n : ℕ) (os : List Observed) → AreSeenInside os → AreSeenInside (drop n os)
seen_drop zero os inside = inside
seen_drop (suc n) [] inside = inside
seen_drop (suc n) (o ∷ os) inside = seen_drop n os inside.1

-- ---- the items with the readies that they show

inside_append : (xs ys : List Stamped) → AreInside xs → AreInside ys → AreInside (xs ++ ys)
inside_append [] ys a b = b
inside_append (x ∷ xs) ys a b = (a.0, inside_append xs ys a.1 b)

stamps_inside : (time : ℕ) (o : Option Item) → ((i : Item) → o ≡ Some i → IsInside i) → AreInside (stamps time o)
stamps_inside time None here = tt
stamps_inside time (Some i) here = (here i refl, tt)

some_inside : (i j : Item) → IsInside i → Some i ≡ Some j → IsInside j
some_inside i j here h = let same : i ≡ j = cc in subst IsInside same here

pub shown_inside : (infers : Bool) (state : TraceState) (time : ℕ) (i : Item) (stamped : List Stamped) → IsInside i → AreInside stamped → AreInside (with_shown infers state time i stamped)
shown_inside false state time i stamped here rest = inside_append stamped (stamps time (Some i)) rest (stamps_inside time (Some i) (λ j is. some_inside i j here is))
shown_inside true state time i stamped here rest =
    inside_append ((stamped ++ stamps time (ready_before state i)) ++ stamps time (array_ready_before (with_ready state i) i)) (stamps time (Some i))
    (inside_append (stamped ++ stamps time (ready_before state i)) (stamps time (array_ready_before (with_ready state i) i))
    (inside_append stamped (stamps time (ready_before state i)) rest (stamps_inside time (ready_before state i) (λ r is. ready_inside state i r here is)))
    (stamps_inside time (array_ready_before (with_ready state i) i) (λ r is. array_ready_inside (with_ready state i) i r here is)))
    (stamps_inside time (Some i) (λ j is. some_inside i j here is))

release_inside : (infers : Bool) (state : TraceState) (luns ce : ℕ) (os : List Observed) (i : Item) → ce ≤ 3 → release_of infers state luns ce os ≡ Some i → IsInside i
release_inside false state luns ce os i few h = cc
release_inside true state luns ce os i few h =
    some_of (is_waiting state luns ce) (Rdy ce 0 (told_at state ce 0 (fails_within 65536 false ce os))) i None h (few, omega arith) (none_is i)

lun_release_inside : (infers : Bool) (state : TraceState) (ce lun : ℕ) (os : List Observed) (i : Item) → ce ≤ 3 → lun ≤ 3 → lun_release_of infers state ce lun os ≡ Some i → IsInside i
lun_release_inside false state ce lun os i few little h = cc
lun_release_inside true state ce lun os i few little h =
    some_of (is_awaited state ce lun) (Rdy ce lun (told_at state ce lun (lun_fails state ce lun os))) i None h (few, little) (none_is i)

lun_released_inside : (infers : Bool) (state : TraceState) (ce lun time : ℕ) (os : List Observed) → ce ≤ 3 → lun ≤ 3 → AreInside (stamps time (lun_release_of infers state ce lun os))
lun_released_inside infers state ce lun time os few little =
    stamps_inside time (lun_release_of infers state ce lun os) (λ i is. lun_release_inside infers state ce lun os i few little is)

pub released_inside : (infers : Bool) (state : TraceState) (luns ce time : ℕ) (os : List Observed) (stamped : List Stamped) → ce ≤ 3 → AreInside stamped
    → AreInside (stamped ++ rise_stamps time (rise_of infers state luns ce os))
released_inside infers state luns ce time os stamped few rest =
    let a = stamps time (release_of infers state luns ce os) in
    let b = stamps time (lun_release_of infers state ce 0 os) in
    let c = stamps time (lun_release_of infers state ce 1 os) in
    let d = stamps time (lun_release_of infers state ce 2 os) in
    let e = stamps time (lun_release_of infers state ce 3 os) in
    inside_append stamped (a ++ (b ++ (c ++ (d ++ e)))) rest
    (inside_append a (b ++ (c ++ (d ++ e))) (stamps_inside time (release_of infers state luns ce os) (λ i is. release_inside infers state luns ce os i few is))
    (inside_append b (c ++ (d ++ e)) (lun_released_inside infers state ce 0 time os few (omega arith))
    (inside_append c (d ++ e) (lun_released_inside infers state ce 1 time os few (omega arith))
    (inside_append d e (lun_released_inside infers state ce 2 time os few (omega arith)) (lun_released_inside infers state ce 3 time os few (omega arith))))))
