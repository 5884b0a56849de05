-- A page that is written is read back.
use Rattle.std.proofs.Common.{◌≡◌, ℕ, List, [], Option, None, Result, Ok, Err, OnOk, sym, ap, ◌∙◌, subst, arith}
use Rattle.std.proofs.lemmas.List.{append-nil}
use Rattle.seq_files.specs.Store.{Store, with_file}
use Rattle.nand_geometry.specs.declared.parts.Parts.{Parts}
use Rattle.nand_geometry.specs.Limits.{InLimits, fault_of}
use Rattle.nand_geometry.specs.Page.{page}
use Rattle.nand_geometry.specs.declared.optional.Profile.{Profile}
use Rattle.nand_geometry.specs.Optional.{as_read}
use Rattle.nand_geometry.specs.Reading.{read_as}
use Rattle.nand_geometry.proofs.RoundTripLemmas.{pages_read_back}
use Rattle.nand_geometry.proofs.LimitLemmas.{faultless}
use Rattle.page_commands.specs.Pages.{IsPageMade}

is_read_back : (profile : Profile) (g : Parts) → InLimits g → read_as profile (page g) ≡ Ok (as_read profile g)
is_read_back profile g limits = sym (ap (read_as profile) (append-nil (page g))) ∙ pages_read_back profile g [] [] limits (λ k d low. absurd (omega (arith, low)))

pub page_made : {T E : Type 0} (files later : Option Store) (parts g : Parts) (target bytes : List ℕ) (result : Result T E) → fault_of parts ≡ None → g ≡ parts → bytes ≡ page g
    → OnOk result (later ≡ with_file files target bytes) → OnOk result (IsPageMade files later parts target)
page_made files later parts g target bytes (Ok x) none same is written =
    record {
      faultless = none;
      bytes = bytes;
      read_back = λ profile. subst (λ (b : List ℕ). read_as profile b ≡ Ok (as_read profile parts)) (sym (is ∙ ap page same)) (is_read_back profile parts ((faultless parts).0 none));
      written = written;
    }
page_made files later parts g target bytes (Err e) none same is written = tt
