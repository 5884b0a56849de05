-- Outputs, inputs and registers are sound.
use Rattle.std.proofs.Common.{◌≡◌, ℕ, zero, suc, ◌+◌, ◌≤◌, Bool, true, false, ◌&&◌, ◌||◌, cond, not, ltb, nat_le, min, List, [], ◌∷◌, Option, Some, None, refl, sym, ap, ◌∙◌, subst, arith, length, replicate}
use Rattle.std.proofs.lemmas.Bool.Decides.{nat_tests}
use Rattle.std.proofs.lemmas.Bool.{not-false, or_parts}
use Rattle.onfi_cycle.proofs.Booleans.{and_rest}
use Rattle.nand_geometry.specs.declared.parts.Parts.{Parts}
use Rattle.nand_geometry.specs.Limits.{InLimits, page_len}
use Rattle.onfi_cycle.specs.declared.item.Item.{Item}
use Rattle.onfi_cycle.specs.declared.item.Kind.TheVariants.{Din}
use Rattle.onfi_cycle.specs.declared.latch.Latch.{Latch}
use Rattle.onfi_cycle.specs.declared.latch.Latch.TheVariants.{Off, Status, Data}
use Rattle.onfi_cycle.specs.declared.read_column.ReadColumn.{ReadColumn}
use Rattle.onfi_cycle.specs.declared.register.Register.{Register}
use Rattle.onfi_cycle.specs.declared.register.Register.TheVariants.{Empty, Page, ParameterPage, Identifier, Identity, JedecIdentity, UniqueId, Features}
use Rattle.onfi_cycle.specs.LunView.{LunView}
use Rattle.onfi_cycle.specs.Sequence.{is_open, input_column}
use Rattle.onfi_cycle.specs.Lun.{output_column, option_plus}
use Rattle.onfi_cycle.specs.Rules.{is_empty, register_len}
use Rattle.onfi_cycle.specs.Channel.{Channel}
use Rattle.micro_word.specs.declared.word.Word.TheVariants.{Get, Put}
use Rattle.micro_program.specs.Lines.{Line}
use Rattle.micro_program.specs.Program.{Job, Done, index_now, place_now, buffer_now}
use Rattle.micro_program.specs.Moves.{Take, gives, and_then, part, put_bytes}
use Rattle.micro_claims.specs.Spans.{Span, bound_plus, is_at_most, plus, plus_between}
use Rattle.micro_claims.specs.State.{State, Registers, KnownLun, Place, Closed, After, InData, InColumn, InFeatures, Unknown, Shown, Held, OutputColumn, bounds_of, shows_status, shows_register, holds_page, holds_parameters, holds_identifier, holds_identity, holds_jedec, holds_unique_id, holds_feature}
use Rattle.micro_claims.specs.Against.{may_be_open, drives, may_show_data, has_register, has_column, long_length_of, length_of, least_length, column_bound, span_bound, is_in_data, is_in_features, takes_inputs_at}
use Rattle.micro_claims.specs.Reasons.{breaks_cycle_forbidden, breaks_buffer_passed, breaks_column_too_large}
use Rattle.micro_claims.specs.Leaves.{paid, with_target, work_started, column_read, span_more, place_moved, features_put, put_leaves_at, put_leaves}
use Rattle.micro_claims.specs.Accepts.{state_after, accepts}
use Rattle.micro_program.proofs.Scenes.{Scene, IsScene}
use Rattle.micro_program.proofs.SceneMoves.{MovesAllowed, scene_after}
use Rattle.micro_claims.proofs.Fits.{Below, RegistersFit, FeaturesBegun, PlaceIs, TailFits, ShowsFit, LunFits, OutputFits, OutputColumnFits, RegisterFits, register_among, latch_among, ColumnFits, Fits, now_of}
use Rattle.micro_claims.proofs.HeldPlanes.{no_pages}
use Rattle.micro_claims.proofs.Numbers.{below_plus, surely}
use Rattle.micro_claims.proofs.Tails.{no_address, closed_tail, closed_fits, programming}
use Rattle.micro_claims.proofs.Sounding.{KnownJob, NoReasons, unmoved, SoundWord, plain_sound}
use Rattle.micro_claims.proofs.Commands.{shows_kept}
use Rattle.micro_claims.proofs.Transfers.{Outputs, status_outputs, data_outputs, CanRead, inputs_go, FeaturesLed, Amid, Whole, FeaturesGo, features_go}
use Rattle.micro_program.proofs.Costs.{buffer_len}
use Rattle.micro_claims.proofs.CopiedPages.{no_copies_fit}
use Rattle.micro_claims.specs.Planes.{no_planes}

-- 1. outputs

read_more : (n : ℕ) (k : ReadColumn) (at : ℕ) → output_column k ≡ Some at → output_column (record k { outputs = k.outputs + n }) ≡ Some (at + n)
read_more n k at h = by k.lost k.given h
  where
    by : (b : Bool) (o : Option ℕ) → cond b None (option_plus k.outputs o) ≡ Some at → cond b None (option_plus (k.outputs + n) o) ≡ Some (at + n)
    by true o h = cc
    by false None h = cc
    by false (Some m) h =
        let same : m + k.outputs ≡ at = cc in
        let more : m + (k.outputs + n) ≡ at + n = omega (arith, same) in
        ap Some more

min_l : (a b : ℕ) → min a b ≤ a
min_l a b = grind arith

min_r : (a b : ℕ) → min a b ≤ b
min_r a b = grind arith

either_least : (b : Bool) (x y n : ℕ) → x ≤ n → (b ≡ false → y ≤ n) → cond b x y ≤ n
either_least true x y n h k = h
either_least false x y n h k = k refl

-- what may be held is no longer than what it is, of each kind
long_page : (g : Parts) (w : Held) → holds_page w ≡ true → long_length_of g w ≤ page_len g
long_page g w h = by (holds_page w) (holds_parameters w) h
  where
    by : (p q : Bool) → p ≡ true → cond p (cond q (min 768 (page_len g)) (page_len g)) 768 ≤ page_len g
    by true true h = min_r 768 (page_len g)
    by true false h = omega arith
    by false q h = cc

long_parameters : (g : Parts) (w : Held) → holds_parameters w ≡ true → long_length_of g w ≤ 768
long_parameters g w h = by (holds_page w) (holds_parameters w) h
  where
    by : (p q : Bool) → q ≡ true → cond p (cond q (min 768 (page_len g)) (page_len g)) 768 ≤ 768
    by true true h = min_l 768 (page_len g)
    by true false h = cc
    by false q h = omega arith

-- the length is at most so much where each of its shorter kinds is, and what is behind them
length_most : (g : Parts) (w : Held) (n : ℕ) → 512 ≤ n → long_length_of g w ≤ n → length_of g w ≤ n
length_most g w n some long =
    either_least (holds_identifier w || holds_feature w) 4 _ n (omega (arith, some))
    (λ a. either_least (holds_jedec w) 6 _ n (omega (arith, some))
    (λ b. either_least (holds_identity w) 8 _ n (omega (arith, some)) (λ c. either_least (holds_unique_id w) 512 (long_length_of g w) n some (λ d. long))))

pub held_length : (g : Parts) (w : Held) (r : Register) → register_among w r ≡ true → 512 ≤ page_len g → length_of g w ≤ register_len g r
held_length g w Empty f some = cc
held_length g w (Page p) f some = length_most g w (page_len g) some (long_page g w f)
held_length g w ParameterPage f some = length_most g w 768 (omega arith) (long_parameters g w f)
held_length g w Identifier f some = short (holds_identifier w) (holds_feature w) f
  where
    short : (a b : Bool) → a ≡ true → cond (a || b) 4 (cond (holds_jedec w) 6 (cond (holds_identity w) 8 (cond (holds_unique_id w) 512 (long_length_of g w)))) ≤ 4
    short true b h = omega arith
    short false b h = cc
held_length g w (Features a) f some = short (holds_identifier w) (holds_feature w) f
  where
    short : (a b : Bool) → b ≡ true → cond (a || b) 4 (cond (holds_jedec w) 6 (cond (holds_identity w) 8 (cond (holds_unique_id w) 512 (long_length_of g w)))) ≤ 4
    short true b h = omega arith
    short false true h = omega arith
    short false false h = cc
held_length g w JedecIdentity f some = either_least (holds_identifier w || holds_feature w) 4 _ 6 (omega arith) (λ a. short (holds_jedec w) f)
  where
    short : (b : Bool) → b ≡ true → cond b 6 (cond (holds_identity w) 8 (cond (holds_unique_id w) 512 (long_length_of g w))) ≤ 6
    short true h = omega arith
    short false h = cc
held_length g w Identity f some =
    either_least (holds_identifier w || holds_feature w) 4 _ 8 (omega arith)
    (λ a. either_least (holds_jedec w) 6 _ 8 (omega arith) (λ b. short (holds_identity w) f))
  where
    short : (b : Bool) → b ≡ true → cond b 8 (cond (holds_unique_id w) 512 (long_length_of g w)) ≤ 8
    short true h = omega arith
    short false h = cc
held_length g w UniqueId f some =
    either_least (holds_identifier w || holds_feature w) 4 _ 512 (omega arith)
    (λ a. either_least (holds_jedec w) 6 _ 512 (omega arith) (λ b. either_least (holds_identity w) 8 _ 512 (omega arith) (λ c. short (holds_unique_id w) f)))
  where
    short : (b : Bool) → b ≡ true → cond b 512 (long_length_of g w) ≤ 512
    short true h = omega arith
    short false h = cc

pub least_register : (g : Parts) (o : Option Held) (r : Register) → RegisterFits o r → has_register o ≡ true → 512 ≤ page_len g → least_length g o ≤ register_len g r
least_register g None r f h some = cc
least_register g (Some w) r f h some = held_length g w r f some

-- what a `get` is against
record GetClear (g : Parts) (v : State) (n buffer : ℕ) : Type 0 where
  closed : may_be_open v ≡ false
  driven : drives v.target.shows ≡ true
  ready : may_show_data v.target.shows ≡ true → (v.lun.busy ≡ false) × (has_register v.lun.register ≡ true) × (has_column v.lun.column ≡ true)
  inside : may_show_data v.target.shows ≡ true → is_at_most (bound_plus (column_bound v.lun.column) n) (least_length g v.lun.register) ≡ true
  place : is_at_most (bound_plus v.registers.place.hi n) buffer ≡ true

get_clear : (g : Parts) (j : Job) (v : State) (n : ℕ) → NoReasons g j.text v (Get n) → GetClear g v n j.text.buffer
unfolding breaks_cycle_forbidden breaks_buffer_passed breaks_column_too_large
get_clear g j v n clear =
    let two = or_parts (may_be_open v || not (drives v.target.shows)) (may_show_data v.target.shows && (v.lun.busy || not (has_register v.lun.register) || not (has_column v.lun.column))) clear.no_cycle_forbidden in
    let one = or_parts (may_be_open v) (not (drives v.target.shows)) two.0 in
    record {
      closed = one.0;
      driven = not-false _ one.1;
      ready = λ e.
          let three = or_parts (v.lun.busy || not (has_register v.lun.register)) (not (has_column v.lun.column)) (and_rest (may_show_data v.target.shows) _ e two.1) in
          let four = or_parts v.lun.busy (not (has_register v.lun.register)) three.0 in
          (four.0, not-false _ four.1, not-false _ three.1);
      inside = λ e. not-false _ (and_rest (may_show_data v.target.shows) _ e clear.no_column_too_large);
      place = not-false _ clear.no_buffer_passed;
    }

-- what outputs lead to
record GetGoes (g : Parts) (j : Job) (l : KnownLun) (o : Option Shown) (i : ℕ) (n : ℕ) (c : Scene) : Type 0 where
  outputs : Outputs g j.lun.lun n c
  shows : ShowsFit o (scene_after g j.lun.lun (replicate n Take) c)
  lun : LunFits g j (record l { column = column_read o n l.column }) i (scene_after g j.lun.lun (replicate n Take) c).view

-- the column behind outputs of status, and behind those of data
status_column : (w : Shown) (n : ℕ) (o : Option OutputColumn) (k : ReadColumn) → OutputColumnFits o k → OutputColumnFits (column_read (Some w) n o) k
status_column w n None k f = tt
status_column w n (Some c) k f = at (shows_register w) (shows_status w)
  where
    least : (b : Bool) → ℕ
    least b = cond b 0 n

    at : (b s : Bool) → OutputColumnFits (cond b (Some (record { at = plus_between c.at (cond s 0 n) n; read = true })) (Some c)) k
    at true s =
        let more : Below (f.at + 0) (bound_plus c.at.hi n) = below_plus f.at c.at.hi 0 n f.below (omega arith) in
        record { at = f.at; is = f.is; below = subst (λ (m : ℕ). Below m (bound_plus c.at.hi n)) (let e : f.at + 0 ≡ f.at = omega arith in e) more; unread = λ e. cc }
    at false s = f

data_column : (w : Shown) (n : ℕ) (o : Option OutputColumn) (k : ReadColumn) → shows_register w ≡ true → OutputColumnFits o k → OutputColumnFits (column_read (Some w) n o) (record k { outputs = k.outputs + n })
data_column w n None k e f = tt
data_column w n (Some c) k e f =
    subst (λ (b : Bool). OutputColumnFits (cond b (Some (record { at = plus_between c.at (cond (shows_status w) 0 n) n; read = true })) (Some c)) (record k { outputs = k.outputs + n })) (sym e)
    (record { at = f.at + n; is = read_more n k f.at f.is; below = below_plus f.at c.at.hi n n f.below (omega arith); unread = λ x. cc })

can_read : (g : Parts) (j : Job) (l : KnownLun) (i n : ℕ) (view : LunView) → LunFits g j l i view → view.latch ≡ Data → l.busy ≡ false → has_register l.register ≡ true → (k : OutputColumn) → l.column ≡ Some k → (f : OutputFits k view.column) → is_at_most (bound_plus k.at.hi n) (least_length g l.register) ≡ true → 512 ≤ page_len g → CanRead g view f.at n
can_read g j l i n view lun latch ready held k is f inside small =
    let least = least_register g l.register view.register lun.register held small in
    let most = surely f.at k.at.hi n (least_length g l.register) f.below inside in
    record { latch = latch; ready = lun.ready ready; held = not_empty l.register view.register lun.register held; column = f.is; inside = omega (arith, least, most) }
  where
    not_empty : (o : Option Held) (r : Register) → RegisterFits o r → has_register o ≡ true → is_empty r ≡ false
    not_empty None r f h = cc
    not_empty (Some w) Empty f h = cc
    not_empty (Some w) (Page p) f h = refl
    not_empty (Some w) ParameterPage f h = refl
    not_empty (Some w) Identifier f h = refl
    not_empty (Some w) _ f h = cc

-- the clear conditions of a `get`, of these parts of a claim
record GetFree (g : Parts) (l : KnownLun) (o : Option Shown) (n : ℕ) : Type 0 where
  driven : drives o ≡ true
  ready : may_show_data o ≡ true → (l.busy ≡ false) × (has_register l.register ≡ true) × (has_column l.column ≡ true)
  inside : may_show_data o ≡ true → is_at_most (bound_plus (column_bound l.column) n) (least_length g l.register) ≡ true

get_goes : (g : Parts) (j : Job) (l : KnownLun) (o : Option Shown) (i n : ℕ) (c : Scene) → is_open c.facts ≡ false → ShowsFit o c → LunFits g j l i c.view → GetFree g l o n → 512 ≤ page_len g → GetGoes g j l o i n c
get_goes g j l None i n c closed shows lun free small = let d = free.driven in cc
get_goes g j l (Some w) i n c closed shows lun free small = by c.view.latch refl shows.1
  where
    with_column : (k : Option OutputColumn) → l.column ≡ k → OutputColumnFits k c.view.column → has_column k ≡ true → is_at_most (bound_plus (column_bound k) n) (least_length g l.register) ≡ true → c.view.latch ≡ Data → shows_register w ≡ true → GetGoes g j l (Some w) i n c
    with_column None is f has inside latch e = cc
    with_column (Some k) is f has inside latch e =
        let ready = free.ready e in
        let can = can_read g j l i n c.view lun latch ready.0 ready.1 k is f inside small in
        let outs = data_outputs g j.lun.lun n c f.at closed shows.0 can in
        record {
          outputs = outs.0;
          shows = (outs.0.sole, ap (λ (v : LunView). latch_among w v.latch) outs.1 ∙ shows.1);
          lun = subst (λ (v : LunView). LunFits g j (record l { column = column_read (Some w) n l.column }) i v) (sym outs.1)
              (record { ready = lun.ready; register = lun.register; column = data_column w n l.column c.view.column e lun.column; queue = lun.queue; last = lun.last; cached = lun.cached; held = lun.held; planes = lun.planes; array = lun.array; copies = lun.copies; programming = lun.programming });
        }

    by : (x : Latch) → c.view.latch ≡ x → latch_among w x ≡ true → GetGoes g j l (Some w) i n c
    by Off latch among = cc
    by Status latch among =
        let outs = status_outputs g j.lun.lun n c closed shows.0 latch in
        record {
          outputs = outs.0;
          shows = (outs.0.sole, ap (λ (v : LunView). latch_among w v.latch) outs.1 ∙ shows.1);
          lun = subst (λ (v : LunView). LunFits g j (record l { column = column_read (Some w) n l.column }) i v) (sym outs.1)
              (record { ready = lun.ready; register = lun.register; column = status_column w n l.column c.view.column lun.column; queue = lun.queue; last = lun.last; cached = lun.cached; held = lun.held; planes = lun.planes; array = lun.array; copies = lun.copies; programming = lun.programming });
        }
    by Data latch among = with_column l.column refl lun.column (free.ready among).2 (free.inside among) latch among

fits_buffer : (n buffer place : ℕ) (o : Option ℕ) → Below place o → is_at_most (bound_plus o n) buffer ≡ true → nat_le (place + n) buffer ≡ true
fits_buffer n buffer place o below h = let most = surely place o n buffer below h in grind (arith, nat_tests, most)

page_some : (g : Parts) → InLimits g → 512 ≤ page_len g
page_some g l = let x = l.page_bytes_least in omega (arith, x)

pub sound_get : (s : Channel) (j : Job) (k : KnownJob s j) (v : State) (past : List Item) (c : Scene) (done : List Done) (rest : List Line) (at n : ℕ) → IsScene s j.lun past c → Fits s.geometry j v done c true → NoReasons s.geometry j.text v (Get n) → accepts s.geometry (bounds_of j.text) None (state_after s.geometry v (Get n)) rest ≡ true → SoundWord s j past done rest at (Get n)
unfolding state_after
sound_get s j k v past c done rest at n scene f clear acc =
    let g = s.geometry in
    let free = get_clear g j v n clear in
    let shut = closed_tail g j v.target (now_of j done) c.facts (f.tail refl) free.closed in
    let goes = get_goes g j v.lun v.target.shows (index_now j.base done) n c shut f.shows f.lun (record { driven = free.driven; ready = free.ready; inside = free.inside }) (page_some g k.limits) in
    plain_sound s j k v past c done rest at (Get n) (replicate n Take) refl scene f.registers clear refl goes.outputs.allowed
    (fits_buffer n j.text.buffer (place_now done) v.registers.place.hi f.registers.place free.place)
    (λ answer. record {
      registers = unmoved g j v (plus v.registers.place n) v.registers.polled done (Get n) answer f.registers clear (record { column = λ m. refl; plane = λ m. refl; index = λ b m. refl }) (below_plus (place_now done) v.registers.place.hi n n f.registers.place (omega arith));
      tail = λ e. closed_fits g j None None v.target.shows (now_of j done) _ goes.outputs.closed;
      free = λ e. cc;
      shows = goes.shows;
      lun = goes.lun;
    })
    acc

-- 2. inputs

in_data : (p : Place) → is_in_data p ≡ true → p ≡ InData
in_data InData h = refl
in_data Closed h = cc
in_data (After o n) h = cc
in_data (InColumn n) h = cc
in_data (InFeatures n) h = cc
in_data Unknown h = cc

part_len : (from n : ℕ) (xs : List ℕ) → from + n ≤ length xs → length (part from n xs) ≡ n
part_len zero zero xs h = refl
part_len zero (suc n) [] h = absurd (omega (arith, h))
part_len zero (suc n) (x ∷ xs) h = ap suc (part_len zero n xs (omega (arith, h)))
part_len (suc m) n [] h = let e : suc m + n ≤ 0 = h in absurd (omega (arith, e))
part_len (suc m) n (x ∷ xs) h = part_len m n xs (omega (arith, h))

put_there : (j : Job) (done : List Done) (n : ℕ) → place_now done + n ≤ length (buffer_now j.buffer done) → put_bytes j done n ≡ Some (part (place_now done) n (buffer_now j.buffer done))
put_there j done n h = let e : nat_le (place_now done + n) (length (buffer_now j.buffer done)) ≡ true = grind (arith, nat_tests, h) in rw e refl

record PutClear (g : Parts) (v : State) (n buffer : ℕ) : Type 0 where
  takes : takes_inputs_at n v.target.tail ≡ true
  inside : is_in_features v.target.tail ≡ false → is_at_most (bound_plus (span_bound v.target.column) n) (page_len g) ≡ true
  place : is_at_most (bound_plus v.registers.place.hi n) buffer ≡ true

put_clear : (g : Parts) (j : Job) (v : State) (n : ℕ) → NoReasons g j.text v (Put n) → PutClear g v n j.text.buffer
unfolding breaks_cycle_forbidden breaks_buffer_passed breaks_column_too_large
put_clear g j v n clear =
    record {
      takes = not-false _ clear.no_cycle_forbidden;
      inside = λ e. not-false _ (and_rest (not (is_in_features v.target.tail)) _ (ap not e) clear.no_column_too_large);
      place = not-false _ clear.no_buffer_passed;
    }

-- the column of the tail, so many inputs on
column_on : (o : Option Span) (column n limit : ℕ) → ColumnFits column o → is_at_most (bound_plus (span_bound o) n) limit ≡ true → (column + n ≤ limit) × ColumnFits (column + n) (span_more n o)
column_on None column n limit f h = absurd f
column_on (Some k) column n limit f h = (surely column k.hi n limit f h, below_plus column k.hi n n f (omega arith))

-- the bytes of the word, which are in the buffer
record PutBytes (j : Job) (done : List Done) (n : ℕ) : Type 0 where
  bytes : List ℕ
  there : put_bytes j done n ≡ Some bytes
  count : length bytes ≡ n

bytes_put : (s : Channel) (j : Job) (k : KnownJob s j) (v : State) (done : List Done) (n : ℕ) → RegistersFit s.geometry j v.registers done → PutClear s.geometry v n j.text.buffer → PutBytes j done n
bytes_put s j k v done n f free =
    let low = surely (place_now done) v.registers.place.hi n j.text.buffer f.place free.place in
    let len = buffer_len j.buffer done in
    let whole = k.buffer in
    let there : place_now done + n ≤ length (buffer_now j.buffer done) = omega (arith, low, len, whole) in
    record { bytes = part (place_now done) n (buffer_now j.buffer done); there = put_there j done n there; count = part_len (place_now done) n (buffer_now j.buffer done) there }

-- what the inputs of a word lead to: the scene behind them, and what the claim says of its tail, of what is shown and of the LUN
record PutGoes (s : Channel) (j : Job) (v : State) (c : Scene) (done : List Done) (n : ℕ) (bytes : List ℕ) : Type 0 where
  scene : Scene
  allowed : MovesAllowed s.geometry j.lun.lun (gives Din bytes) c
  leads : scene_after s.geometry j.lun.lun (gives Din bytes) c ≡ scene
  registers : (put_leaves v n).registers ≡ record v.registers { place = plus v.registers.place n }
  tail : TailFits s.geometry j (put_leaves v n).target (now_of j done) scene.facts
  shows : ShowsFit (put_leaves v n).target.shows scene
  lun : LunFits s.geometry j (put_leaves v n).lun (index_now j.base done) scene.view

-- in the data of a program
data_leaves : (v : State) (n : ℕ) → v.target.tail ≡ InData → put_leaves v n ≡ place_moved n (with_target v (record v.target { column = span_more n v.target.column }))
data_leaves v n e = ap (put_leaves_at v n) e

data_goes : (s : Channel) (j : Job) (v : State) (c : Scene) (done : List Done) (n : ℕ) (bytes : List ℕ) → Fits s.geometry j v done c true → v.target.tail ≡ InData → is_at_most (bound_plus (span_bound v.target.column) n) (page_len s.geometry) ≡ true → length bytes ≡ n → PutGoes s j v c done n bytes
data_goes s j v c done n bytes f here inside count =
    let g = s.geometry in
    let left = data_leaves v n here in
    let p = programming g j v.target (now_of j done) c.facts is_in_data in_data (f.tail refl) (ap is_in_data here) in
    let on = column_on v.target.column (input_column c.facts) n (page_len g) p.column inside in
    let room = on.0 in
    let go = inputs_go g j.lun.lun p.address bytes c p.program (omega (arith, room, count)) in
    let behind : Scene = record { facts = go.facts; view = c.view; sole = c.sole } in
    record {
      scene = behind;
      allowed = go.allowed;
      leads = go.leads;
      registers = ap (λ (x : State). x.registers) left;
      tail = subst (λ (x : State). TailFits g j x.target (now_of j done) go.facts) (sym left)
          (record {
            place = InData;
            here = here;
            address = p.address;
            is = go.put.program;
            now = λ x. cc;
            column = λ x. subst (λ (m : ℕ). ColumnFits m (span_more n v.target.column)) (sym go.put.column ∙ refl) (subst (λ (m : ℕ). ColumnFits (input_column c.facts + m) (span_more n v.target.column)) (sym count) on.1);
            row = λ x. p.row;
            named = λ x. p.named;
            single = λ x. cc;
          });
      shows = subst (λ (x : State). ShowsFit x.target.shows behind) (sym left) (shows_kept v.target.shows c behind (λ e. e) refl f.shows);
      lun = subst (λ (x : State). LunFits g j x.lun (index_now j.base done) c.view) (sym left) f.lun;
    }

-- in the four bytes of a Set Features
features_leaves : (v : State) (inputs n : ℕ) → v.target.tail ≡ InFeatures inputs → put_leaves v n ≡ place_moved n (features_put v (inputs + n))
features_leaves v inputs n e = ap (put_leaves_at v n) e

amid_leaves : (v : State) (inputs n : ℕ) → v.target.tail ≡ InFeatures inputs → ltb (inputs + n) 4 ≡ true → put_leaves v n ≡ place_moved n (with_target v (record v.target { tail = InFeatures (inputs + n) }))
amid_leaves v inputs n e few = features_leaves v inputs n e ∙ ap (λ (b : Bool). place_moved n (cond b (with_target v (record v.target { tail = InFeatures (inputs + n) })) (work_started v.lun.queue v))) few

whole_leaves : (v : State) (inputs n : ℕ) → v.target.tail ≡ InFeatures inputs → ltb (inputs + n) 4 ≡ false → put_leaves v n ≡ place_moved n (work_started v.lun.queue v)
whole_leaves v inputs n e all = features_leaves v inputs n e ∙ ap (λ (b : Bool). place_moved n (cond b (with_target v (record v.target { tail = InFeatures (inputs + n) })) (work_started v.lun.queue v))) all

features_goes : (s : Channel) (j : Job) (v : State) (c : Scene) (done : List Done) (inputs n : ℕ) (bytes : List ℕ) → ltb 1 s.geometry.luns ≡ false → Fits s.geometry j v done c true → v.target.tail ≡ InFeatures inputs → FeaturesBegun inputs c.facts → inputs + n ≤ 4 → length bytes ≡ n → PutGoes s j v c done n bytes
features_goes s j v c done inputs n bytes one f here begun few count = by go.led
  where
    g : Parts
    g = s.geometry

    total : inputs + length bytes ≡ inputs + n
    total = ap (λ (m : ℕ). inputs + m) count

    go : FeaturesGo s.geometry j.lun.lun bytes c (inputs + length bytes)
    go = features_go s.geometry j.lun.lun bytes inputs c one begun (omega (arith, few, count))

    by : FeaturesLed (inputs + length bytes) c go.scene → PutGoes s j v c done n bytes
    by (Amid b view sole) =
        let low = b.few in
        let left = amid_leaves v inputs n here (let x : ltb (inputs + n) 4 ≡ true = grind (arith, nat_tests, low, total) in x) in
        record {
          scene = go.scene;
          allowed = go.allowed;
          leads = go.leads;
          registers = ap (λ (x : State). x.registers) left;
          tail = subst (λ (x : State). TailFits g j x.target (now_of j done) go.scene.facts) (sym left)
              (record { place = InFeatures (inputs + n); here = refl; address = no_address; is = subst (λ (m : ℕ). FeaturesBegun m go.scene.facts) total b; now = λ x. cc; column = λ x. cc; row = λ x. cc; named = λ x. cc; single = λ x. one });
          shows = subst (λ (x : State). ShowsFit x.target.shows go.scene) (sym left) (shows_kept v.target.shows c go.scene (λ e. sole ∙ e) (ap (λ (w : LunView). w.latch) view) f.shows);
          lun = subst (λ (x : State). LunFits g j x.lun (index_now j.base done) go.scene.view) (sym left) (subst (λ (w : LunView). LunFits g j v.lun (index_now j.base done) w) (sym view) f.lun);
        }
    by (Whole all shut address view sole) =
        let left = whole_leaves v inputs n here (let x : ltb (inputs + n) 4 ≡ false = grind (arith, nat_tests, all, total) in x) in
        record {
          scene = go.scene;
          allowed = go.allowed;
          leads = go.leads;
          registers = ap (λ (x : State). x.registers) left;
          tail = subst (λ (x : State). TailFits g j x.target (now_of j done) go.scene.facts) (sym left) (closed_fits g j None None v.target.shows (now_of j done) go.scene.facts shut);
          shows = subst (λ (x : State). ShowsFit x.target.shows go.scene) (sym left) (shows_kept v.target.shows c go.scene (λ e. sole ∙ e) (ap (λ (w : LunView). w.latch) view) f.shows);
          lun = subst (λ (x : State). LunFits g j x.lun (index_now j.base done) go.scene.view) (sym left)
              (subst (λ (w : LunView). LunFits g j (work_started v.lun.queue v).lun (index_now j.base done) w) (sym view)
              (record { ready = λ e. cc; register = tt; column = tt; queue = f.lun.queue; last = refl; cached = λ e x. cc; held = λ e. cc; planes = no_pages s.geometry []; array = no_pages s.geometry (c.view.array_page ∷ []); copies = no_copies_fit s.geometry no_planes _ _; programming = λ e. refl }));
        }

put_goes : (s : Channel) (j : Job) (v : State) (c : Scene) (done : List Done) (n : ℕ) (bytes : List ℕ) → Fits s.geometry j v done c true → PutClear s.geometry v n j.text.buffer → length bytes ≡ n → PutGoes s j v c done n bytes
put_goes s j v c done n bytes f free count = by v.target.tail refl
  where
    at : (t : TailFits s.geometry j v.target (now_of j done) c.facts) (inputs : ℕ) → v.target.tail ≡ InFeatures inputs → FeaturesBegun inputs c.facts
    at t inputs e = subst (λ (p : Place). PlaceIs p t.address c.facts) (sym t.here ∙ e) t.is

    single : (t : TailFits s.geometry j v.target (now_of j done) c.facts) (inputs : ℕ) → v.target.tail ≡ InFeatures inputs → ltb 1 s.geometry.luns ≡ false
    single t inputs e = t.single (ap is_in_features (sym t.here ∙ e))

    none : (p : Place) → v.target.tail ≡ p → takes_inputs_at n p ≡ false → PutGoes s j v c done n bytes
    none p e h = let takes : takes_inputs_at n p ≡ true = ap (takes_inputs_at n) (sym e) ∙ free.takes in let clash : true ≡ false = sym takes ∙ h in cc

    by : (p : Place) → v.target.tail ≡ p → PutGoes s j v c done n bytes
    by InData e = data_goes s j v c done n bytes f e (free.inside (ap is_in_features e)) count
    by (InFeatures inputs) e =
        let takes : nat_le (inputs + n) 4 ≡ true = ap (takes_inputs_at n) (sym e) ∙ free.takes in
        features_goes s j v c done inputs n bytes (single (f.tail refl) inputs e) f e (at (f.tail refl) inputs e) (let x : inputs + n ≤ 4 = grind (arith, nat_tests, takes) in x) count
    by Closed e = none Closed e refl
    by (After o m) e = none (After o m) e refl
    by (InColumn m) e = none (InColumn m) e refl
    by Unknown e = none Unknown e refl

pub sound_put : (s : Channel) (j : Job) (k : KnownJob s j) (v : State) (past : List Item) (c : Scene) (done : List Done) (rest : List Line) (at n : ℕ) → IsScene s j.lun past c → Fits s.geometry j v done c true → NoReasons s.geometry j.text v (Put n) → accepts s.geometry (bounds_of j.text) None (state_after s.geometry v (Put n)) rest ≡ true → SoundWord s j past done rest at (Put n)
unfolding state_after
sound_put s j k v past c done rest at n scene f clear acc =
    let g = s.geometry in
    let free = put_clear g j v n clear in
    let b = bytes_put s j k v done n f.registers free in
    let go = put_goes s j v c done n b.bytes f free b.count in
    plain_sound s j k v past c done rest at (Put n) (gives Din b.bytes) refl scene f.registers clear (ap (λ (o : Option (List ℕ)). and_then o (λ xs. Some (gives Din xs))) b.there) go.allowed
    (fits_buffer n j.text.buffer (place_now done) v.registers.place.hi f.registers.place free.place)
    (λ answer. subst (λ (x : Scene). Fits g j (state_after g v (Put n)) (record { word = Put n; answer = answer } ∷ done) x true) (sym go.leads)
    (record {
      registers = subst (λ (r : Registers). RegistersFit g j (paid n r) (record { word = Put n; answer = answer } ∷ done)) (sym go.registers)
          (unmoved g j v (plus v.registers.place n) v.registers.polled done (Put n) answer f.registers clear (record { column = λ m. refl; plane = λ m. refl; index = λ b m. refl }) (below_plus (place_now done) v.registers.place.hi n n f.registers.place (omega arith)));
      tail = λ e. go.tail;
      free = λ e. cc;
      shows = go.shows;
      lun = go.lun;
    }))
    acc
