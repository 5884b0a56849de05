-- Files that are to be written, one added after the other.
use Rattle.std.proofs.Common.{◌≡◌, ℕ, zero, suc, ◌+◌, ◌<◌, ◌≤◌, arith, List, [], ◌∷◌, ◌++◌, map, drop, get_or, length, Option, Some, None, slice_get, refl, sym, ap, ◌∙◌}
use Rattle.std.specs.List.{cons_option}
use Rattle.std.proofs.lemmas.Option.{slice_get-get_or}
use Rattle.std.proofs.lemmas.List.{append-nil, drop_more}
use Rattle.run_plan.proofs.Lists.{front_more}
use Rattle.seq_files.specs.declared.made_file.MadeFile.{MadeFile}
use Rattle.seq_files.specs.Store.{Written, made_of}
use Rattle.seq_files.proofs.Made.{made_pushed}
use Rattle.die_model.specs.Die.{Die}
use Rattle.die_model.specs.Image.{image_of}
use Rattle.std.specs.Option.{option_map}
use Rattle.seq_run.specs.declared.job_ends.EndedJob.{EndedJob}
use Rattle.run_plan.specs.declared.plan.PlannedImage.{PlannedImage}
use Rattle.seq_run.specs.Written.{buffer_of, buffers_of, image_at, images_of}

-- the buffer of one job of a list
pub buffer_more : (jobs : List EndedJob) (k : ℕ) (x : EndedJob) (old new whole : List Written) → k < length jobs → x ≡ get_or jobs k x → new ≡ old ++ cons_option (buffer_of x) [] → old ++ buffers_of (drop k jobs) ≡ whole → new ++ buffers_of (drop (k + 1) jobs) ≡ whole
buffer_more jobs k x old new whole inside is next before =
    let here = ap buffers_of (drop_more jobs k x inside) ∙ ap (λ (y : EndedJob). cons_option (buffer_of y) (buffers_of (drop (k + 1) jobs))) (sym is) in
    ap (λ (l : List Written). l ++ buffers_of (drop (k + 1) jobs)) next
    ∙ front_more (buffer_of x) old (buffers_of (drop (k + 1) jobs))
    ∙ ap (λ (l : List Written). old ++ l) (sym here)
    ∙ before

-- one image of a list
pub image_more : (dies : List Die) (images : List PlannedImage) (k : ℕ) (x : PlannedImage) (old new whole : List Written) → k < length images → x ≡ get_or images k x → new ≡ old ++ cons_option (image_at dies x) [] → old ++ images_of dies (drop k images) ≡ whole → new ++ images_of dies (drop (k + 1) images) ≡ whole
image_more dies images k x old new whole inside is next before =
    let here = ap (images_of dies) (drop_more images k x inside) ∙ ap (λ (y : PlannedImage). cons_option (image_at dies y) (images_of dies (drop (k + 1) images))) (sym is) in
    ap (λ (l : List Written). l ++ images_of dies (drop (k + 1) images)) next
    ∙ front_more (image_at dies x) old (images_of dies (drop (k + 1) images))
    ∙ ap (λ (l : List Written). old ++ l) (sym here)
    ∙ before

image_there : (dies : List Die) (image : PlannedImage) (die : Die) (o : Option Die) → o ≡ Some die → cons_option {X = Written} (option_map (λ (d : Die). (image.path.now, image_of d)) o) [] ≡ (image.path.now, image_of die) ∷ []
image_there dies image die o there = ap (λ (p : Option Die). cons_option {X = Written} (option_map (λ (d : Die). (image.path.now, image_of d)) p) []) there

pub pushed : {A : Type 0} (dies : List Die) (image : PlannedImage) (die : Die) (made new : List (MadeFile A)) (file : MadeFile A) → slice_get dies image.number ≡ Some die → new ≡ made ++ file ∷ [] → made_of file ≡ (image.path.now, image_of die) → map made_of new ≡ map made_of made ++ cons_option (image_at dies image) []
pushed dies image die made new file there is shown =
    made_pushed made new file is
    ∙ ap (λ (w : Written). map made_of made ++ w ∷ []) shown
    ∙ ap (λ (l : List Written). map made_of made ++ l) (sym (image_there dies image die (slice_get dies image.number) there))

past_end : (dies : List Die) (k : ℕ) → length dies ≤ k → slice_get dies k ≡ None
past_end [] k over = refl
past_end (d ∷ dies) zero over = absurd (omega (arith, over))
past_end (d ∷ dies) (suc k) over = past_end dies k (omega (arith, over))

pub die_is_there : (dies : List Die) (k : ℕ) (die : Die) → k < length dies → die ≡ get_or dies k die → slice_get dies k ≡ Some die
die_is_there dies k die inside is = slice_get-get_or dies k die inside ∙ ap Some (sym is)

pub not_pushed : {A : Type 0} (dies : List Die) (image : PlannedImage) (made : List (MadeFile A)) → length dies ≤ image.number → map made_of made ≡ map made_of made ++ cons_option (image_at dies image) []
not_pushed dies image made over =
    sym (append-nil (map made_of made))
    ∙ ap (λ (o : Option Die). map made_of made ++ cons_option {X = Written} (option_map (λ (d : Die). (image.path.now, image_of d)) o) []) (sym (past_end dies image.number over))
