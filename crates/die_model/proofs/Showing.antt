-- What a die shows that stands for its LUN.
use Rattle.std.proofs.Common.{◌≡◌, ℕ, true, false, not, ◌&&◌, Option, Some, None, List, [], ◌∷◌, refl, ap, ◌∙◌}
use Rattle.std.proofs.lemmas.Bool.{not-true, and_parts as both}
use Rattle.std.specs.Option.{is_none}
use Rattle.nand_geometry.specs.Page.{parameter_bytes}
use Rattle.onfi_cycle.specs.declared.command.Command.{Command}
use Rattle.onfi_cycle.specs.declared.page_address.PageAddress.{PageAddress}
use Rattle.onfi_cycle.specs.declared.queued.Queued.{Queued}
use Rattle.onfi_cycle.specs.declared.register.Register.{Register}
use Rattle.onfi_cycle.specs.declared.register.Register.TheVariants as r
use Rattle.onfi_cycle.specs.Lun.{is_plane_program}
use Rattle.onfi_cycle.specs.Content.{ArrayWork, is_some_work, status_byte, content, register_bytes}
use Rattle.onfi_cycle.specs.Rules.{is_empty, has_some}
use Rattle.die_model.specs.Die.{page_of, works_of, are_none}
use Rattle.die_model.specs.Standing.{DiesShow}

same_bytes : (parameters : List ℕ) (f g : PageAddress → List ℕ) (x : Register) → ((p : PageAddress) → f p ≡ g p) → register_bytes parameters f x ≡ register_bytes parameters g x
same_bytes parameters f g r.Empty h = refl
same_bytes parameters f g (r.Page p) h = h p
same_bytes parameters f g r.ParameterPage h = refl
same_bytes parameters f g r.Identifier h = refl
same_bytes parameters f g r.Identity h = refl
same_bytes parameters f g r.JedecIdentity h = refl
same_bytes parameters f g r.UniqueId h = refl
same_bytes parameters f g (r.Features address) h = refl

pub empty_is : (x : Register) → is_empty x ≡ true → x ≡ r.Empty
empty_is r.Empty h = refl
empty_is _ h = cc

pub none_is : (q : List Queued) → not (has_some q) ≡ true → q ≡ []
none_is [] h = refl
none_is (x ∷ q) h = cc

no_closer : (closer : Option Command) → is_none closer ≡ true → closer ≡ None
no_closer None h = refl
no_closer (Some c) h = cc

pub no_works : (works : List ArrayWork) → not (is_some_work works) ≡ true → works ≡ []
no_works [] h = refl
no_works (w ∷ works) h = cc

no_pages : (held : List PageAddress) → are_none held ≡ true → held ≡ []
no_pages [] h = refl
no_pages (p ∷ held) h = cc

pub dies_show : DiesShow
dies_show =
    record {
      status = λ s past l d f. (λ j. status_byte (f.busy j) (f.array_busy j) (f.failed j && not (is_plane_program (f.closer j))) (f.failed_before j));
      bytes = λ s past l d f same.
          ap (λ (x : List ℕ). register_bytes x (page_of d) d.register) (ap parameter_bytes f.geometry ∙ same)
          ∙ (same_bytes s.parameters (page_of d) (content s.geometry s.opening past l) d.register f.pages ∙ ap (register_bytes s.parameters (content s.geometry s.opening past l)) f.register);
      first = λ s l d geometry pages new array_page count.
          let a = both (not d.busy) _ new in
          let b = both (not d.array_busy) _ a.1 in
          let c = both (is_none d.closer) _ b.1 in
          let e = both (is_empty d.register) _ c.1 in
          let n = both (are_none d.held) _ e.1 in
          let f = both (not (has_some d.queued)) _ n.1 in
          let h = both (not (has_some d.pending)) _ f.1 in
          let k = both (not (is_some_work d.in_array)) _ h.1 in
          let m = both (not d.failed) (not d.failed_before) k.1 in
          record {
            geometry = geometry;
            pages = pages;
            register = empty_is d.register e.0;
            held = no_pages d.held n.0;
            array_page = array_page;
            busy = not-true d.busy a.0;
            closer = no_closer d.closer c.0;
            array_busy = not-true d.array_busy b.0;
            queue = none_is d.queued f.0;
            queued = ap (works_of d.geometry d.planes) (none_is d.queued f.0);
            pending = ap (works_of d.geometry d.planes) (none_is d.pending h.0);
            in_array = no_works d.in_array k.0;
            failed = not-true d.failed m.0;
            failed_before = not-true d.failed_before m.1;
            count = count;
            open_program = λ named here. let x : false ≡ true = named in cc;
          };
    }
