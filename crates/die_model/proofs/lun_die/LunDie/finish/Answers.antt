use Rattle.std.proofs.Common.{◌≡◌, ℕ, List, [], length, cond, ap, subst, ◌∙◌, refl, sym}
use Rattle.std.specs.List.{refill}
use Rattle.nand_geometry.specs.declared.parts.Parts.{Parts}
use Rattle.onfi_cycle.specs.declared.effect.Effect.TheVariants.{BecameReady}
use Rattle.onfi_cycle.specs.Lun.{is_cache_program}
use Rattle.onfi_cycle.proofs.Following.{refilled}
use Rattle.die_model.specs.Die.{Die, KeepsDie, HasRows, IsAfter, works_of}
use Rattle.die_model.proofs.Begun.{die_of, die_ended, array_ended, open_ended, shows_fetched, ended_pages, ended_failed, ended_before, passed_on, waits, ends}
use Rattle.die_model.proofs.lun_die.LunDie.finish.Goals as goal

pub invariant_of-self : goal.invariant_of-self
invariant_of-self g c =
    let i = c.self.inside in
    let old = i.activity in
    let new = c.finish.new.self in
    let over = c.finish.ensures in
    let ended = c.end_works.ensures in
    let registers = c.take_registers.new.into in
    let cache = is_cache_program old.closer in
    let given : registers ≡ cond cache i.planes.items i.array_planes.items =
    c.take_registers.ensures ∙ (λ k. cond (c.is_cache_program.ensures k) (c.as_slice-3.ensures.value k) (c.as_mut_slice.ensures.value k)) in
    let written = refilled i.array_planes.len i.array_planes.items registers (c.take_registers.auto.into ∙ (ap length c.as_mut_slice.ensures.value ∙ sym i.array_planes.ok.0)) i.array_planes.ok.0 in
    subst (λ (r : List (List ℕ)). KeepsDie i.geometry i.parameters.items c.end_works.new.pages i.planes.items r new.queue.items new.in_array.items new.closed new.busy new.closer new.register c.fetch.new.output) (sym (written ∙ given))
    (record {
      die = die_ended i.geometry c.parts.result i.parameters.items i.pages c.end_works.new.pages i.planes.items c.as_slice.result.now old.queue.items new.queue.items old.closed new.closed old.busy new.busy
          c.self.invariant.die c.parts.ensures.value c.as_slice.ensures.value ended.rows ended.waiting over.queue over.closed;
      array = array_ended i.geometry i.pages c.end_works.new.pages i.planes.items i.array_planes.items old.closer old.queue.items old.in_array.items new.in_array.items old.closed cache refl
          (subst (HasRows i.geometry c.end_works.new.pages) c.as_slice.ensures.value (subst (λ (p : Parts). HasRows p c.end_works.new.pages c.as_slice.result.now) c.parts.ensures.value ended.rows))
          c.self.invariant.array c.self.invariant.closed_by ended.cached ended.queued over.in_array;
      closed_by = open_ended new.closer new.queue.items new.closed over.closed;
      shows = shows_fetched i.geometry c.end_works.new.pages i.pages i.output c.fetch.new.output old.register new.register c.self.invariant.shows c.fetch.ensures.width c.fetch.ensures.page;
    })

pub returns : goal.returns
returns g c =
    let i = c.self.inside in
    let old = i.activity in
    let new = c.finish.new.self in
    let over = c.finish.ensures in
    let registers = c.take_registers.new.into in
    let cache = is_cache_program old.closer in
    let given : registers ≡ cond cache i.planes.items i.array_planes.items =
    c.take_registers.ensures ∙ (λ k. cond (c.is_cache_program.ensures k) (c.as_slice-3.ensures.value k) (c.as_mut_slice.ensures.value k)) in
    let written = refilled i.array_planes.len i.array_planes.items registers (c.take_registers.auto.into ∙ (ap length c.as_mut_slice.ensures.value ∙ sym i.array_planes.ok.0)) i.array_planes.ok.0 in
    let none = waits over.closed over.queue in
    let ended = ended_pages c.args.fail old.closer old.closed i.geometry c.parts.result i.planes.items c.as_slice.result.now i.array_planes.items c.as_slice-2.result.now old.queue.items old.in_array.items i.pages c.end_works.new.pages
    c.parts.ensures.value c.as_slice.ensures.value c.as_slice-2.ensures.value c.end_works.ensures.pages in
    subst (λ (o : Die). IsAfter (BecameReady c.args.fail) o (die_of i.geometry c.end_works.new.pages i.planes.items (refill i.array_planes.len i.array_planes.items registers) new)) c.self.view_is
    (record {
      geometry = refl;
      planes = refl;
      pages = ended;
      register = over.register;
      held = ap (λ h. h.items) over.held;
      array_page = over.array_page;
      busy = over.busy;
      closer = over.closer;
      array_busy = over.array_busy;
      queue = none;
      queued = ap (works_of i.geometry i.planes.items) none;
      pending = ap (works_of i.geometry i.planes.items) (ends over.closed over.queue);
      in_array = ap (λ (r : List (List ℕ)). works_of i.geometry r new.in_array.items) (written ∙ given)
          ∙ passed_on i.geometry i.planes.items i.array_planes.items c.args.fail old.closer (cond old.closed old.queue.items []) old.in_array.items new.in_array.items cache refl over.in_array;
      failed = over.failed ∙ ended_failed i.geometry i.planes.items c.args.fail old.closer old.failed old.closed old.queue.items c.self.invariant.die.some;
      failed_before = over.failed_before ∙ ended_before i.geometry i.array_planes.items c.args.fail old.closer old.failed old.failed_before old.in_array.items c.self.invariant.array.programs;
    })
