-- A LUN with a job has a name last started.
use Rattle.std.proofs.Common.{◌≡◌, ℕ, ◌*◌, Bool, true, false, cond, not, ◌&&◌, List, [], ◌∷◌, ◌++◌, Option, Some, None, is_some, refl, sym, ap, ◌∙◌, subst, reverse, length}
use Rattle.std.proofs.lemmas.List.{reverse-append, append_assoc, append-nil}
use Rattle.std.proofs.Math.ListN.{length-replicate}
use Rattle.std.proofs.Math.ListN.{length-set}
use Rattle.onfi_cycle.specs.declared.lun.Lun.{Lun}
use Rattle.onfi_cycle.specs.declared.item.Item.{Item}
use Rattle.onfi_cycle.specs.declared.item.Item.TheVariants.{Rdy, Ard}
use Rattle.onfi_cycle.specs.Permitted.{is_permitted}
use Rattle.onfi_cycle.specs.Channel.{Channel, is_there, same_lun}
use Rattle.micro_program.specs.Program.{Job}
use Rattle.micro_program.specs.Moves.{and_then}
use Rattle.micro_program.specs.Step.{Stride, next_step, keeps_bus}
use Rattle.seq_core.specs.declared.load_fault.LoadFault.{LoadFault}
use Rattle.seq_core.specs.declared.load_fault.LoadFault.TheVariants.{SlotTaken, OtherLun, OtherGeometry}
use Rattle.seq_core.specs.declared.stepped.Stepped.TheVariants.{Held}
use Rattle.seq_core.specs.World.{Slot, World, number, slot_of, with_slot, fresh_slot, fresh}
use Rattle.seq_core.specs.Event.{Event, Step, Unload}
use Rattle.seq_core.specs.declared.unload_fault.UnloadFault.{UnloadFault}
use Rattle.seq_core.specs.declared.unload_fault.UnloadFault.TheVariants.{NoJob}
use Rattle.seq_core.specs.Reply.{Reply, ToReady, ToArrayReady, ToUnload, Unloaded, NotUnloaded}
use Rattle.channel_work.specs.Channel.{HistoryView}
use Rattle.channel_work.specs.Lawful.{IsLawful}
use Rattle.channel_work.proofs.Runs.{came_after}
use Rattle.seq_core.specs.After.{After, Ran, after, run, after_load, load_fault, same_parts, after_step, after_slot_step, after_stride, after_item, after_unload, after_slot_unload, stands, is_held}
use Rattle.seq_core.specs.Shows.{CoreView, channel_in}
use Rattle.seq_core.specs.Headline.{EventsAreOwn}
use Rattle.seq_core.specs.Calls.{IsEvent}
use Rattle.seq_core.proofs.Slots.{same_lun_is, same_lun_self, slot_other, there_of_slot, none_of_fresh}
use Rattle.job_queue.specs.declared.rule.QueuedJob.{QueuedJob}
use Rattle.channel_work.specs.declared.stored.Name.{Name}
use Rattle.channel_work.specs.declared.stored.Stored.{Stored}
use Rattle.channel_work.specs.declared.stored.Stored.TheVariants.{Load as Loaded, Step as WasStepped, Ready as BecameReady, ArrayReady as ArrayBecameReady, Unload as WasUnloaded}
use Rattle.channel_work.specs.Stored.{IsStoredAs, AreStoredAs, last_started}

-- each LUN with a slot has a name last started
abbrev pub AreNamed : Channel → World → List Stored → Type 0
AreNamed s w past = (m : Lun) (y : Slot) → slot_of s w m ≡ Some y → (n : Name) × (last_started m past ≡ Some n)

-- so it is, and each LUN has its place
pub record IsGood (s : Channel) (w : World) (past : List Stored) : Type 0 where
  pub size : length w.slots ≡ s.targets * s.geometry.luns
  pub named : AreNamed s w past

same_after : (a b : After) → Some a ≡ Some b → a ≡ b
same_after a b e = cc

-- an event that fills no slot and starts no job
still : (s : Channel) (w u : World) (past : List Stored) (x : Stored) → length u.slots ≡ length w.slots → ((m : Lun) (y : Slot) → slot_of s u m ≡ Some y → (z : Slot) × (slot_of s w m ≡ Some z))
    → ((m : Lun) → last_started m (x ∷ past) ≡ last_started m past) → IsGood s w past → IsGood s u (x ∷ past)
still s w u past x size back same g =
    record { size = size ∙ g.size; named = λ m y h. let z = back m y h in let n = g.named m z.0 z.1 in (n.0, same m ∙ n.1) }

clash : {X : Type 0} {x : X} → None ≡ Some x → ⊥
clash h = cc

both : (b : Bool) → b ≡ true → b ≡ false → ⊥
both b e f = cc

-- the slots with one changed at a LUN that had one
refilled : (s : Channel) (w : World) (l : Lun) (x0 : Slot) (v : Option Slot) (past : List Item) (holder : Option Lun) → slot_of s w l ≡ Some x0 → (m : Lun) (y : Slot)
    → slot_of s (record { past = past; slots = with_slot s w.slots l v; holder = holder }) m ≡ Some y → (z : Slot) × (slot_of s w m ≡ Some z)
refilled s w l x0 v past holder e m y h = at (same_lun l m) refl
  where
    u : World
    u = record { past = past; slots = with_slot s w.slots l v; holder = holder }

    at : (b : Bool) → same_lun l m ≡ b → (z : Slot) × (slot_of s w m ≡ Some z)
    at true is = (x0, subst (λ (n : Lun). slot_of s w n ≡ Some x0) (same_lun_is l m is) e)
    at false is = (y, sym (slot_other s past w.slots holder w l m v refl (there_of_slot s w l x0 e) (there_of_slot s (record { past = past; slots = with_slot s w.slots l v; holder = holder }) m y h) is) ∙ h)

item_good : (s : Channel) (w : World) (past : List Stored) (x : Stored) (i : Item) (f : Bool → Reply) (b : Bool) → ((m : Lun) → last_started m (x ∷ past) ≡ last_started m past) → IsGood s w past → IsGood s (after_item w i f b).world (x ∷ past)
item_good s w past x i f true same g = still s w (record w { past = i ∷ w.past }) past x refl (λ m y h. (y, h)) same g
item_good s w past x i f false same g = still s w w past x refl (λ m y h. (y, h)) same g

to_after : (s : Channel) (past : List Stored) (b a : After) → Some b ≡ Some a → IsGood s b.world past → IsGood s a.world past
to_after s past b a e g = subst (λ (x : After). IsGood s x.world past) (same_after b a e) g

step_good : (s : Channel) (w : World) (past : List Stored) (l : Lun) (turn : ℕ) (a : After) → IsGood s w past → after s w (Step l) ≡ Some a → IsGood s a.world (WasStepped l turn ∷ past)
step_good s w past l turn a g is = at (slot_of s w l) refl is
  where
    same : IsGood s w (WasStepped l turn ∷ past)
    same = still s w w past (WasStepped l turn) refl (λ m y h. (y, h)) (λ m. refl) g

    strode : (x : Slot) → slot_of s w l ≡ Some x → (o : Option Stride) → and_then o (λ r. Some (after_stride s w l x.job r)) ≡ Some a → IsGood s a.world (WasStepped l turn ∷ past)
    strode x e None is = absurd (clash is)
    strode x e (Some r) is =
        to_after s (WasStepped l turn ∷ past) (after_stride s w l x.job r) a is
        (still s w (after_stride s w l x.job r).world past (WasStepped l turn) (length-set w.slots (number s l) (Some (record { job = x.job; ahead = r.ahead; done = r.done; code = r.code })))
        (refilled s w l x (Some (record { job = x.job; ahead = r.ahead; done = r.done; code = r.code })) r.past (cond (keeps_bus r.outcome) (Some l) None) e) (λ m. refl) g)

    held : (x : Slot) → slot_of s w l ≡ Some x → (b : Bool) → cond b (stands w Held) (and_then (next_step s x.job w.past x.ahead x.done) (λ r. Some (after_stride s w l x.job r))) ≡ Some a → IsGood s a.world (WasStepped l turn ∷ past)
    held x e true is = to_after s (WasStepped l turn ∷ past) _ a is same
    held x e false is = strode x e (next_step s x.job w.past x.ahead x.done) is

    coded : (x : Slot) → slot_of s w l ≡ Some x → (c : Option ℕ) → after_slot_step s w l x c ≡ Some a → IsGood s a.world (WasStepped l turn ∷ past)
    coded x e (Some code) is = to_after s (WasStepped l turn ∷ past) _ a is same
    coded x e None is = held x e (is_held w.holder l) is

    at : (o : Option Slot) → slot_of s w l ≡ o → after_step s w l o ≡ Some a → IsGood s a.world (WasStepped l turn ∷ past)
    at None e is = to_after s (WasStepped l turn ∷ past) _ a is same
    at (Some x) e is = coded x e x.code is

unload_good : (s : Channel) (w : World) (past : List Stored) (l : Lun) → IsGood s w past → IsGood s (after_unload s w l (slot_of s w l)).world (WasUnloaded l ∷ past)
unload_good s w past l g = at (slot_of s w l) refl
  where
    same : IsGood s w (WasUnloaded l ∷ past)
    same = still s w w past (WasUnloaded l) refl (λ m y h. (y, h)) (λ m. refl) g

    coded : (x : Slot) → slot_of s w l ≡ Some x → (c : Option ℕ) → IsGood s (after_slot_unload s w l x c).world (WasUnloaded l ∷ past)
    coded x e None = same
    coded x e (Some code) = still s w (record w { slots = with_slot s w.slots l None }) past (WasUnloaded l) (length-set w.slots (number s l) None) (refilled s w l x None w.past w.holder e) (λ m. refl) g

    at : (o : Option Slot) → slot_of s w l ≡ o → IsGood s (after_unload s w l o).world (WasUnloaded l ∷ past)
    at None e = same
    at (Some x) e = coded x e x.code

-- a load that isn't refused is of a LUN that is there
load_there : (s : Channel) (w : World) (l : Lun) (j : Job) → load_fault s w l j ≡ None → is_there s l ≡ true
load_there s w l j h = first (is_some (slot_of s w l)) (is_there s l) h
  where
    one : (f : LoadFault) → Some f ≡ None → ⊥
    one f h = cc

    first : (b c : Bool) → cond b (Some SlotTaken) (cond (not (c && same_lun l j.lun)) (Some OtherLun) (cond (not (same_parts s.geometry j.geometry)) (Some OtherGeometry) None)) ≡ None → c ≡ true
    first true c h = absurd (one SlotTaken h)
    first false true h = refl
    first false false h = absurd (one OtherLun h)

load_good : (s : Channel) (w : World) (past : List Stored) (l : Lun) (n : Name) (j : Job) → IsGood s w past → IsGood s (after_load s w l j (load_fault s w l j)).world (Loaded l n ∷ past)
load_good s w past l n j g = at (load_fault s w l j) refl
  where
    known : (m : Lun) → ((same_lun m l ≡ false) → (k : Name) × (last_started m past ≡ Some k)) → (k : Name) × (last_started m (Loaded l n ∷ past) ≡ Some k)
    known m rest = by (same_lun m l) refl
      where
        by : (b : Bool) → same_lun m l ≡ b → (k : Name) × (cond b (Some n) (last_started m past) ≡ Some k)
        by true is = (n, refl)
        by false is = rest is

    turned : (m : Lun) → same_lun m l ≡ false → same_lun l m ≡ false
    turned m is = by (same_lun l m) refl
      where
        by : (b : Bool) → same_lun l m ≡ b → b ≡ false
        by true e = absurd (both (same_lun m l) (subst (λ (k : Lun). same_lun m k ≡ true) (sym (same_lun_is l m e)) (same_lun_self m)) is)
        by false e = refl

    at : (f : Option LoadFault) → load_fault s w l j ≡ f → IsGood s (after_load s w l j f).world (Loaded l n ∷ past)
    at (Some f) e = record { size = g.size; named = λ m y h. known m (λ is. g.named m y h) }
    at None e =
        let u : World = record w { slots = with_slot s w.slots l (Some (fresh_slot j)) } in
        record {
          size = length-set w.slots (number s l) (Some (fresh_slot j)) ∙ g.size;
          named = λ m y h. known m (λ is. g.named m y (sym (slot_other s w.past w.slots w.holder w l m (Some (fresh_slot j)) refl (load_there s w l j e) (there_of_slot s u m y h) (turned m is)) ∙ h));
        }

-- one event more
good_more : (taken : List (QueuedJob Job)) (s : Channel) (w : World) (past : List Stored) (x : Stored) (e : Event) (a : After) → IsGood s w past → IsStoredAs taken x e → after s w e ≡ Some a → IsGood s a.world (x ∷ past)
good_more taken s w past (Loaded l n) e a g h is = to_after s (Loaded l n ∷ past) _ a (subst (λ (d : Event). after s w d ≡ Some a) h.3 is) (load_good s w past l n h.0.job g)
good_more taken s w past (WasStepped l turn) e a g h is = step_good s w past l turn a g (subst (λ (d : Event). after s w d ≡ Some a) h is)
good_more taken s w past (BecameReady l fail) e a g h is =
    to_after s (BecameReady l fail ∷ past) _ a (subst (λ (d : Event). after s w d ≡ Some a) h is) (item_good s w past (BecameReady l fail) (Rdy l.ce l.lun fail) ToReady (is_permitted s.geometry s.targets w.past (Rdy l.ce l.lun fail)) (λ m. refl) g)
good_more taken s w past (ArrayBecameReady l fail) e a g h is =
    to_after s (ArrayBecameReady l fail ∷ past) _ a (subst (λ (d : Event). after s w d ≡ Some a) h is) (item_good s w past (ArrayBecameReady l fail) (Ard l.ce l.lun fail) ToArrayReady (is_permitted s.geometry s.targets w.past (Ard l.ce l.lun fail)) (λ m. refl) g)
good_more taken s w past (WasUnloaded l) e a g h is = to_after s (WasUnloaded l ∷ past) _ a (subst (λ (d : Event). after s w d ≡ Some a) h is) (unload_good s w past l g)

same_ran : (r q : Ran) → Some r ≡ Some q → r ≡ q
same_ran r q e = cc

-- what a first event makes of the run behind it
abbrev behind : After → Option Ran → Option Ran
behind b o = and_then o (λ q. Some (record { world = q.world; replies = b.reply ∷ q.replies }))

-- the events, the newest first, on top of those before
abbrev pub onto : List Stored → List Stored → List Stored
onto [] past = past
onto (x ∷ xs) past = onto xs (x ∷ past)

onto_reverse : (xs past : List Stored) → onto xs past ≡ reverse xs ++ past
onto_reverse [] past = refl
onto_reverse (x ∷ xs) past = onto_reverse xs (x ∷ past) ∙ (sym (append_assoc (reverse xs) (x ∷ []) past) ∙ ap (λ (ys : List Stored). ys ++ past) (sym (reverse-append (x ∷ []) xs)))

-- all events
pub good_run : (taken : List (QueuedJob Job)) (s : Channel) (xs : List Stored) (es : List Event) (w : World) (past : List Stored) (r : Ran) → IsGood s w past → AreStoredAs taken xs es → EventsAreOwn s es w → run s es w ≡ Some r → IsGood s r.world (onto xs past)
good_run taken s [] [] w past r g h own is = subst (λ (u : World). IsGood s u past) (world_is is) g
  where
    world_is : Some (let q : Ran = record { world = w; replies = [] } in q) ≡ Some r → w ≡ r.world
    world_is e = cc
good_run taken s [] (e ∷ es) w past r g h own is = absurd h
good_run taken s (x ∷ xs) [] w past r g h own is = absurd h
good_run taken s (x ∷ xs) (e ∷ es) w past r g h own is =
    let b = own.0 in
    let whole : behind b (run s es b.world) ≡ Some r = sym (ap (λ (o : Option After). and_then o (λ q. behind q (run s es q.world))) own.1) ∙ is in
    at b (λ q k. good_run taken s xs es b.world (x ∷ past) q (good_more taken s w past x e b g h.0 own.1) h.1 own.3 k) (run s es b.world) refl whole
  where
    at : (b : After) → ((q : Ran) → run s es b.world ≡ Some q → IsGood s q.world (onto xs (x ∷ past))) → (o : Option Ran) → run s es b.world ≡ o → behind b o ≡ Some r → IsGood s r.world (onto xs (x ∷ past))
    at b rec None e2 whole = absurd (clash whole)
    at b rec (Some q) e2 whole = subst (λ (u : World). IsGood s u (onto xs (x ∷ past))) (ap (λ (k : Ran). k.world) (same_ran (record { world = q.world; replies = b.reply ∷ q.replies }) r whole)) (rec q e2)

unloaded_slot : (s : Channel) (w : World) (l : Lun) (job : Job) (code : ℕ) (a : After) (n : List Stored) → AreNamed s w n → after s w (Unload l) ≡ Some a → a.reply ≡ ToUnload (Unloaded job code) → last_started l n ≡ None → ⊥
unloaded_slot s w l job code a n named is said none_there = at (slot_of s w l) refl is
  where
    refused : (f : UnloadFault) → ToUnload (NotUnloaded f) ≡ ToUnload (Unloaded job code) → ⊥
    refused f h = cc

    other : {X : Type 0} {x : X} (o : Option X) → o ≡ Some x → o ≡ None → ⊥
    other o e f = cc

    at : (o : Option Slot) → slot_of s w l ≡ o → Some (after_unload s w l o) ≡ Some a → ⊥
    at None e is = refused NoJob (ap (λ (x : After). x.reply) (same_after (after_unload s w l None) a is) ∙ said)
    at (Some x) e is = let k = named l x e in other (last_started l n) k.1 none_there

-- a LUN whose job was unloaded has a name last started
pub named_if_unloaded : (v : HistoryView) (later : CoreView) (l : Lun) (job : Job) (code : ℕ) → IsLawful v → IsEvent v.core (Unload l) (ToUnload (Unloaded job code)) later → last_started l (reverse v.events) ≡ None → ⊥
named_if_unloaded v later l job code h event none_there =
    let s = channel_in v.core in
    let came = came_after v.core later h.events h.replies (Unload l) (ToUnload (Unloaded job code)) h.run event in
    let first : IsGood s (fresh s) [] = record { size = length-replicate (s.targets * s.geometry.luns) None; named = λ m y e. absurd (empty s m y e) } in
    let good = good_run v.taker.taken s v.events h.events (fresh s) [] h.run.ran first h.stored h.run.own h.run.is_ran in
    let turned : onto v.events [] ≡ reverse v.events = onto_reverse v.events [] ∙ append-nil (reverse v.events) in
    unloaded_slot s h.run.ran.world l job code came.next (reverse v.events) (subst (AreNamed s h.run.ran.world) turned good.named) came.is_next came.replied none_there
  where
    empty : (s : Channel) (m : Lun) (y : Slot) → slot_of s (fresh s) m ≡ Some y → ⊥
    empty s m y e = clash (sym (none_of_fresh s [] None (s.targets * s.geometry.luns) m) ∙ e)
