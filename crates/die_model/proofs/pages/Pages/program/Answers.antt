use Rattle.std.proofs.Common.{sym, ap, ◌∙◌, cond}
use Rattle.std.specs.Option.{option_copied_mut}
use Rattle.onfi_cycle.specs.Content.{same_page}
use Rattle.die_model.specs.Pages.{kept, programmed}
use Rattle.die_model.proofs.Kept.{program_kept, program_none, some_there}
use Rattle.die_model.proofs.pages.Pages.program.Goals as goal
use Rattle.die_model.proofs.pages.Pages.program.Goals.{in-Some, in_default}

pub program-requires : goal.program-requires
program-requires g c = c.requires c.in-Some.page.now (sym (ap (λ e. kept e c.args.at) c.self.view_is) ∙ (sym c.get_mut.ensures.value ∙ ap option_copied_mut c.in-Some.is))

pub returns : goal.returns
returns g c = λ p. elim c.match-get_mut.branch [
  | in-Some w ↦
      (let was = sym c.get_mut.ensures.value ∙ ap option_copied_mut w.in-Some.is in
      let writes = c.get_mut.follows.holds w.program.new.self in
      ap (λ i. kept i.map.entries p) w.self-inside-is
      ∙ (program_kept c.args.at c.self.inside.map.entries (c.get_mut.follows.lender w.program.new.self).entries w.in-Some.page.now c.args.new.now w.program.new.self was w.program.ensures (writes.3 (some_there _ _ was)).0 p
      ∙ ap (λ e. cond (same_page p c.args.at) (programmed c.args.new.now (kept e p)) (kept e p)) c.self.view_is))
  | in_default w ↦
      (let none = sym c.get_mut.ensures.value ∙ ap option_copied_mut w.in_default.is in
      ap (λ i. kept i.map.entries p) (w.self-inside-is)
      ∙ (ap (λ m. kept m.entries p) c.get_mut.follows.holds-at-none
      ∙ (program_none c.args.at c.self.inside.map.entries c.args.new.now none p
      ∙ ap (λ e. cond (same_page p c.args.at) (programmed c.args.new.now (kept e p)) (kept e p)) c.self.view_is)))
]
