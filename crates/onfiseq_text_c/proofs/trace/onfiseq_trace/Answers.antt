use Rattle.std.proofs.Common.{List, Ok, Err, refl, ap, ◌∙◌, subst}
use Rattle.nand_geometry.specs.declared.optional.Profile.{Profile}
use Rattle.onfi_cycle.specs.declared.item.Item.{Item}
use Rattle.trace_text.specs.declared.form.TraceForm.{TraceForm}
use Rattle.onfiseq_text_c.specs.Trace.{ReadsTrace, left, told, form_of}
use Rattle.onfiseq_text_c.proofs.trace.onfiseq_trace.Goals as goal

pub returns-in-Ok : goal.returns-in-Ok
returns-in-Ok c =
    subst (λ (p : Profile). ReadsTrace (form_of c.args.recorded) p c.args.text.now c.args.items.now c.place_all.new.items c.place_all.result) c.profile_of.ensures
    (subst (λ (form : TraceForm). ReadsTrace form c.profile_of.result c.args.text.now c.args.items.now c.place_all.new.items c.place_all.result) c.form_of.ensures
    (record {
      made = Ok c.in-Ok.made.items;
      is = c.in-Ok.ensures.ok;
      told = c.place_all.ensures.told ∙ ap (λ (made : List Item). told (Ok made) c.args.items.now) c.as_slice.ensures.value;
      left = c.place_all.ensures.left ∙ ap (λ (made : List Item). left (Ok made) c.args.items.now) c.as_slice.ensures.value;
    }))

pub returns-in-Err : goal.returns-in-Err
returns-in-Err c =
    subst (λ (p : Profile). ReadsTrace (form_of c.args.recorded) p c.args.text.now c.args.items.now c.args.items.now c.told.result) c.profile_of.ensures
    (subst (λ (form : TraceForm). ReadsTrace form c.profile_of.result c.args.text.now c.args.items.now c.args.items.now c.told.result) c.form_of.ensures
    (record { made = Err c.in-Err.failure; is = c.in-Err.ensures.err; told = c.told.ensures; left = refl }))
