-- Effects that leave the work, the register and the queue of a LUN, and change its latch and column at most.
use Rattle.std.proofs.Common.{◌≡◌, ℕ, Bool, true, false, cond, List, ◌∷◌, Option, refl, sym, ap, ◌∙◌, subst}
use Rattle.onfi_cycle.proofs.Booleans.{eqb_self}
use Rattle.nand_geometry.specs.declared.parts.Parts.{Parts}
use Rattle.onfi_cycle.specs.declared.lun.Lun.{Lun}
use Rattle.onfi_cycle.specs.declared.item.Item.{Item}
use Rattle.onfi_cycle.specs.declared.item.Kind.{Kind}
use Rattle.onfi_cycle.specs.declared.command.Command.{Command}
use Rattle.onfi_cycle.specs.declared.target_cycle.TargetCycle.{TargetCycle}
use Rattle.onfi_cycle.specs.declared.page_address.PageAddress.{PageAddress}
use Rattle.onfi_cycle.specs.declared.register.Register.{Register}
use Rattle.onfi_cycle.specs.declared.queued.Queued.{Queued}
use Rattle.onfi_cycle.specs.declared.effect.Effect.{Effect}
use Rattle.onfi_cycle.specs.declared.effect.Effect.TheVariants.{Unaffected, DataOutputEnabled, StatusSelected, StatusRowAwaited, SelectedForStatus, Deselected, DataOutput, ReadColumnChanged, StatusOfSelected, AnotherAddressed}
use Rattle.onfi_cycle.specs.Sequence.{target_cycle, tail, facts_of}
use Rattle.onfi_cycle.specs.Effect.{cycle_effect}
use Rattle.onfi_cycle.specs.Lun.{latch_alone, effect_on, is_busy, busy_after, closer, closer_after, is_cache_read, is_array_busy, array_busy_after, is_caching, array_page, array_page_after, register, register_after, queue, queue_after, held, held_after, is_copyback_read, effect_among}
use Rattle.onfi_cycle.specs.Channel.{IsIdle, is_serving, cycle}

abbrev pub is_calm : Effect → Bool
is_calm Unaffected = true
is_calm DataOutputEnabled = true
is_calm StatusSelected = true
is_calm StatusRowAwaited = true
is_calm SelectedForStatus = true
is_calm Deselected = true
is_calm DataOutput = true
is_calm (ReadColumnChanged column) = true
is_calm StatusOfSelected = true
is_calm (AnotherAddressed reads) = true
is_calm _ = false

record LeavesAll (e : Effect) : Type 0 where
  busy : (b : Bool) → busy_after e b ≡ b
  closer : (c : Option Command) → closer_after e c ≡ c
  array_busy : (b : Bool) (c : Option Command) (x : Bool) → array_busy_after e b c x ≡ x
  array_page : (p : PageAddress) → array_page_after e p ≡ p
  register : (p : PageAddress) (q : List Queued) (h : List PageAddress) (r : Register) → register_after e p q h r ≡ r
  queue : (q : List Queued) → queue_after e q ≡ q
  held : (copyback : Bool) (p : PageAddress) (q : List Queued) (h : List PageAddress) → held_after e copyback p q h ≡ h

leaves_all : (e : Effect) → is_calm e ≡ true → LeavesAll e
leaves_all Unaffected h = record { busy = λ b. refl; closer = λ c. refl; array_busy = λ b c x. refl; array_page = λ p. refl; register = λ p q h r. refl; queue = λ q. refl; held = λ b p q h. refl }
leaves_all DataOutputEnabled h = record { busy = λ b. refl; closer = λ c. refl; array_busy = λ b c x. refl; array_page = λ p. refl; register = λ p q h r. refl; queue = λ q. refl; held = λ b p q h. refl }
leaves_all StatusSelected h = record { busy = λ b. refl; closer = λ c. refl; array_busy = λ b c x. refl; array_page = λ p. refl; register = λ p q h r. refl; queue = λ q. refl; held = λ b p q h. refl }
leaves_all StatusRowAwaited h = record { busy = λ b. refl; closer = λ c. refl; array_busy = λ b c x. refl; array_page = λ p. refl; register = λ p q h r. refl; queue = λ q. refl; held = λ b p q h. refl }
leaves_all SelectedForStatus h = record { busy = λ b. refl; closer = λ c. refl; array_busy = λ b c x. refl; array_page = λ p. refl; register = λ p q h r. refl; queue = λ q. refl; held = λ b p q h. refl }
leaves_all Deselected h = record { busy = λ b. refl; closer = λ c. refl; array_busy = λ b c x. refl; array_page = λ p. refl; register = λ p q h r. refl; queue = λ q. refl; held = λ b p q h. refl }
leaves_all DataOutput h = record { busy = λ b. refl; closer = λ c. refl; array_busy = λ b c x. refl; array_page = λ p. refl; register = λ p q h r. refl; queue = λ q. refl; held = λ b p q h. refl }
leaves_all (ReadColumnChanged column) h = record { busy = λ b. refl; closer = λ c. refl; array_busy = λ b c x. refl; array_page = λ p. refl; register = λ p q h r. refl; queue = λ q. refl; held = λ b p q h. refl }
leaves_all StatusOfSelected h = record { busy = λ b. refl; closer = λ c. refl; array_busy = λ b c x. refl; array_page = λ p. refl; register = λ p q h r. refl; queue = λ q. refl; held = λ b p q h. refl }
leaves_all (AnotherAddressed reads) h = record { busy = λ b. refl; closer = λ c. refl; array_busy = λ b c x. refl; array_page = λ p. refl; register = λ p q h r. refl; queue = λ q. refl; held = λ b p q h. refl }
leaves_all _ h = cc

-- some items more leave the work, the register and the queue of a LUN
pub record Calm (g : Parts) (before later : List Item) (l : Lun) : Type 0 where
  pub busy : is_busy g later l ≡ is_busy g before l
  pub closer : closer g later l ≡ closer g before l
  pub array_busy : is_array_busy g later l ≡ is_array_busy g before l
  pub array_page : array_page g later l ≡ array_page g before l
  pub register : register g later l ≡ register g before l
  pub queue : queue g later l ≡ queue g before l
  pub held : held g later l ≡ held g before l

-- an item whose effect is calm
pub calm : (g : Parts) (past : List Item) (i : Item) (l : Lun) → is_calm (effect_on g past i l) ≡ true → Calm g past (i ∷ past) l
calm g past i l h =
    let k : LeavesAll (effect_on g past i l) = leaves_all (effect_on g past i l) h in
    record {
      busy = k.busy (is_busy g past l);
      closer = k.closer (closer g past l);
      array_busy = k.array_busy (is_busy g past l) (closer g past l) (is_array_busy g past l);
      array_page = k.array_page (array_page g past l);
      register = k.register (array_page g past l) (queue g past l) (held g past l) (register g past l);
      queue = k.queue (queue g past l);
      held = k.held (is_copyback_read (closer g past l)) (array_page g past l) (queue g past l) (held g past l);
    }

-- first some items, then more
pub calmer : (g : Parts) (p q r : List Item) (l : Lun) → Calm g p q l → Calm g q r l → Calm g p r l
calmer g p q r l x y =
    record {
      busy = y.busy ∙ x.busy;
      closer = y.closer ∙ x.closer;
      array_busy = y.array_busy ∙ x.array_busy;
      array_page = y.array_page ∙ x.array_page;
      register = y.register ∙ x.register;
      queue = y.queue ∙ x.queue;
      held = y.held ∙ x.held;
    }

pub calm_idle : (g : Parts) (before later : List Item) (l : Lun) → Calm g before later l → is_serving g later l.ce ≡ false → IsIdle g before l → IsIdle g later l
calm_idle g before later l k free idle = record { ready = k.busy ∙ idle.ready; no_cache = ap is_cache_read k.closer ∙ idle.no_cache; no_program = rw (k.busy, k.closer, k.array_busy) idle.no_program; no_queue = k.queue ∙ idle.no_queue; free = free }

pub either_calm : (b : Bool) (x y : Effect) → is_calm x ≡ true → is_calm y ≡ true → is_calm (cond b x y) ≡ true
either_calm true x y h k = h
either_calm false x y h k = k

-- what a cycle of its own target does to a LUN
pub own_effect : (g : Parts) (past : List Item) (l : Lun) (kind : Kind) (byte : ℕ) → effect_on g past (cycle l.ce kind byte) l ≡ cycle_effect g (facts_of (tail past l.ce)) (latch_alone g past l) (target_cycle kind byte) l.lun
unfolding effect_among
own_effect g past l kind byte = rw (eqb_self l.ce) refl

-- a cycle of its own target, after this tail
pub calm_cycle : (g : Parts) (past : List Item) (l : Lun) (kind : Kind) (byte : ℕ) → is_calm (cycle_effect g (facts_of (tail past l.ce)) (latch_alone g past l) (target_cycle kind byte) l.lun) ≡ true → Calm g past (cycle l.ce kind byte ∷ past) l
calm_cycle g past l kind byte h = calm g past (cycle l.ce kind byte) l (rw (own_effect g past l kind byte) h)

-- the same, where the tail is known
pub calm_after : (g : Parts) (past : List Item) (l : Lun) (kind : Kind) (byte : ℕ) (t : List TargetCycle) → tail past l.ce ≡ t → is_calm (cycle_effect g (facts_of t) (latch_alone g past l) (target_cycle kind byte) l.lun) ≡ true → Calm g past (cycle l.ce kind byte ∷ past) l
calm_after g past l kind byte t e h =
    calm_cycle g past l kind byte (subst (λ (u : List TargetCycle). is_calm (cycle_effect g (facts_of u) (latch_alone g past l) (target_cycle kind byte) l.lun) ≡ true) (sym e) h)
