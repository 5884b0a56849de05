-- What the statements from a place on come to, the statements of the whole file come to.
use Rattle.std.proofs.Common.{◌≡◌, ℕ, ◌+◌, ◌<◌, ◌≤◌, List, [], ◌∷◌, ◌++◌, length, drop, get_or, Option, Some, None, refl, sym, ap, ◌∙◌, subst, inl, inr}
use Rattle.std.specs.List.{cons_option, filter_map}
use Rattle.std.proofs.lemmas.List.{append-nil, drop_more, drop_all, drop-map}
use Rattle.seq_files.specs.Store.{Store}
use Rattle.nand_geometry.specs.declared.parts.Parts.{Parts}
use Rattle.run_file.specs.declared.refusal.RunRefusal.{RunRefusal}
use Rattle.run_file.specs.declared.statement.Numbered.{Numbered as Written}
use Rattle.run_file.specs.Shown.{shown_statement, shown_numbered, shown_all}
use Rattle.seq_inputs.specs.declared.fault.Fault.{Fault}
use Rattle.seq_inputs.specs.declared.fault.Fault.TheVariants.{Statement as Line}
use Rattle.seq_inputs.specs.declared.stop.Stop.{Stop}
use Rattle.seq_inputs.specs.declared.stop.Stop.TheVariants.{Refused, FileFault, ReaderGone, BuffersTooLarge, OutOfMemory}
use Rattle.seq_inputs.specs.Stops.{Says, SaysAt, stop_at}
use Rattle.run_plan.specs.Planned.{image_in, images_in}
use Rattle.run_plan.specs.Judged.{Numbered, Passes, IsRefused, IsRefusedAt, RestIsRefused, RestPasses, page_of, targets_of, AfterPageIsRefused, PageStatementIsRefused, PlanPasses, PlanIsRefused}
use Rattle.nand_geometry.specs.declared.optional.Profile.{Profile}
use Rattle.seq_inputs.specs.Inputs.{HasPageAs, PageIsRefused}
use Rattle.run_plan.proofs.Lists.{front_more}
use Rattle.run_file.specs.Told.{Told}

-- where the statements that are left are refused or pass, so do all
pub record LeadsTo (files : Option Store) (g : Parts) (targets : ℕ) (last : Option RunRefusal) (left whole : List Numbered) : Type 0 where
  pub refused : (fault : Fault) (line : ℕ) → RestIsRefused files g targets left last fault line → RestIsRefused files g targets whole last fault line
  pub passes : RestPasses files g targets left last → RestPasses files g targets whole last

pub begins : (files : Option Store) (g : Parts) (targets : ℕ) (last : Option RunRefusal) (whole : List Numbered) → LeadsTo files g targets last whole whole
begins files g targets last whole = record { refused = λ fault line h. h; passes = λ h. h }

-- the first of the statements that are left passes
pub goes_on : (files : Option Store) (g : Parts) (targets : ℕ) (last : Option RunRefusal) (s : Numbered) (rest whole : List Numbered) → Passes files g targets s.1 → LeadsTo files g targets last (s ∷ rest) whole → LeadsTo files g targets last rest whole
unfolding RestIsRefused RestPasses
goes_on files g targets last s rest whole passes leads =
    record { refused = λ fault line h. leads.refused fault line (inr (passes, h)); passes = λ h. leads.passes (passes, h) }

-- a refusal of what is left is one of the whole
refused_more : {A : Type 0} (May More : Fault → ℕ → Type 0) (r : Stop A) → ((fault : Fault) (line : ℕ) → May fault line → More fault line) → SaysAt May r → SaysAt More r
refused_more May More (Refused refusal words) more (line, h, at) = (line, more refusal.fault line h, at)
refused_more May More (FileFault path fault line) more h = tt
refused_more May More ReaderGone more h = tt
refused_more May More (BuffersTooLarge bytes line) more h = h
refused_more May More OutOfMemory more h = tt

-- the first of the statements that are left is refused
pub stops : {A : Type 0} (files : Option Store) (g : Parts) (targets : ℕ) (last : Option RunRefusal) (s : Numbered) (rest whole : List Numbered) (r : Stop A) → LeadsTo files g targets last (s ∷ rest) whole → SaysAt (IsRefusedAt files g targets s) r → SaysAt (RestIsRefused files g targets whole last) r
unfolding RestIsRefused
stops files g targets last s rest whole r leads h =
    refused_more (IsRefusedAt files g targets s) (RestIsRefused files g targets whole last) r (λ fault line is. leads.refused fault line (inl is)) h

-- no statement is left, and the text has no fault
pub ends_well : (files : Option Store) (g : Parts) (targets : ℕ) (last : Option RunRefusal) (whole : List Numbered) → LeadsTo files g targets last [] whole → last ≡ None → RestPasses files g targets whole last
unfolding RestPasses
ends_well files g targets last whole leads none = leads.passes none

-- no statement is left, and the text has a fault
pub ends_refused : (files : Option Store) (g : Parts) (targets : ℕ) (r : RunRefusal) (whole : List Numbered) → LeadsTo files g targets (Some r) [] whole → RestIsRefused files g targets whole (Some r) (Line r.fault) r.line
unfolding RestIsRefused
ends_refused files g targets r whole leads = leads.refused (Line r.fault) r.line (refl, refl)

-- what is said of a statement is said of its line
said_at : {A : Type 0} (P : Fault → Type 0) (Q : Fault → ℕ → Type 0) (e : Stop A) (line : ℕ) → ((fault : Fault) → P fault → Q fault line) → Says P e → SaysAt Q (stop_at e line)
said_at P Q (Refused refusal words) line more says = (line, more refusal.fault says.0, refl)
said_at P Q (FileFault path fault at) line more says = tt
said_at P Q ReaderGone line more says = tt
said_at P Q (BuffersTooLarge bytes at) line more says = says
said_at P Q OutOfMemory line more says = tt

-- a statement is refused with its line
pub refused_there : {A : Type 0} (files : Option Store) (g : Parts) (targets : ℕ) (s : Numbered) (e r : Stop A) → r ≡ stop_at e s.0 → Says (IsRefused files g targets s.1) e → SaysAt (IsRefusedAt files g targets s) r
refused_there files g targets s e r at says =
    subst (λ t. SaysAt (IsRefusedAt files g targets s) t) (sym at) (said_at (IsRefused files g targets s.1) (IsRefusedAt files g targets s) e s.0 (λ fault is. (is, refl)) says)

-- the page is refused with its line
pub page_there : {A : Type 0} (files : Option Store) (profile : Profile) (told : Told) (page : ℕ × List ℕ) (e r : Stop A) → page_of told.statements ≡ Some page → r ≡ stop_at e page.0 → Says (PageIsRefused files page.1) e → SaysAt (PlanIsRefused files profile told) r
page_there files profile told page e r first at says =
    subst (λ t. SaysAt (PlanIsRefused files profile told) t) (sym at)
    (said_at (PageIsRefused files page.1) (PlanIsRefused files profile told) e page.0
    (λ fault is. subst (λ (o : Option (ℕ × List ℕ)). PageStatementIsRefused files profile o told fault page.0) (sym first) (inl (is, refl))) says)

-- ---- a statement by its place

-- what is left begins with it
pub from_place : (xs : List Written) (k : ℕ) (d : Written) → k < length xs → shown_all (drop k xs) ≡ shown_numbered (get_or xs k d) ∷ shown_all (drop (k + 1) xs)
from_place xs k d inside = ap shown_all (drop_more xs k d inside)

pub passes_on : (files now : Option Store) (g h : Parts) (targets n : ℕ) (last : Option RunRefusal) (xs : List Written) (k : ℕ) (d : Written) → k < length xs → now ≡ files → h ≡ g → n ≡ targets → Passes now h n (shown_statement (get_or xs k d).statement) → LeadsTo files g targets last (shown_all (drop k xs)) (shown_all xs) → LeadsTo files g targets last (shown_all (drop (k + 1) xs)) (shown_all xs)
passes_on files now g h targets n last xs k d inside same_files same_geometry same_targets passes leads =
    goes_on files g targets last (shown_numbered (get_or xs k d)) (shown_all (drop (k + 1) xs)) (shown_all xs)
    (subst (λ (m : ℕ). Passes files g m (shown_statement (get_or xs k d).statement)) same_targets
    (subst (λ (p : Parts). Passes files p n (shown_statement (get_or xs k d).statement)) same_geometry
    (subst (λ (s : Option Store). Passes s h n (shown_statement (get_or xs k d).statement)) same_files passes)))
    (subst (λ (l : List Numbered). LeadsTo files g targets last l (shown_all xs)) (from_place xs k d inside) leads)

pub stops_here : {A : Type 0} (files now : Option Store) (g h : Parts) (targets n : ℕ) (last : Option RunRefusal) (xs : List Written) (k : ℕ) (d : Written) (r : Stop A) → k < length xs → now ≡ files → h ≡ g → n ≡ targets → SaysAt (IsRefusedAt now h n (shown_numbered (get_or xs k d))) r → LeadsTo files g targets last (shown_all (drop k xs)) (shown_all xs) → SaysAt (RestIsRefused files g targets (shown_all xs) last) r
stops_here files now g h targets n last xs k d r inside same_files same_geometry same_targets refused leads =
    stops files g targets last (shown_numbered (get_or xs k d)) (shown_all (drop (k + 1) xs)) (shown_all xs) r
    (subst (λ (l : List Numbered). LeadsTo files g targets last l (shown_all xs)) (from_place xs k d inside) leads)
    (subst (λ (m : ℕ). SaysAt (IsRefusedAt files g m (shown_numbered (get_or xs k d))) r) same_targets
    (subst (λ (p : Parts). SaysAt (IsRefusedAt files p n (shown_numbered (get_or xs k d))) r) same_geometry
    (subst (λ (s : Option Store). SaysAt (IsRefusedAt s h n (shown_numbered (get_or xs k d))) r) same_files refused)))

-- nothing is left
pub none_left : (xs : List Written) (k : ℕ) → length xs ≤ k → shown_all (drop k xs) ≡ []
none_left xs k over = ap shown_all (drop_all k xs over)

pub all_pass : (files : Option Store) (g : Parts) (targets : ℕ) (last : Option RunRefusal) (xs : List Written) (k : ℕ) → length xs ≤ k → last ≡ None → LeadsTo files g targets last (shown_all (drop k xs)) (shown_all xs) → RestPasses files g targets (shown_all xs) last
all_pass files g targets last xs k over none leads =
    ends_well files g targets last (shown_all xs) (subst (λ (l : List Numbered). LeadsTo files g targets last l (shown_all xs)) (none_left xs k over) leads) none

pub text_stops : (files : Option Store) (g : Parts) (targets : ℕ) (last : Option RunRefusal) (r : RunRefusal) (xs : List Written) (k : ℕ) → length xs ≤ k → last ≡ Some r → LeadsTo files g targets last (shown_all (drop k xs)) (shown_all xs) → RestIsRefused files g targets (shown_all xs) last (Line r.fault) r.line
text_stops files g targets last r xs k over some leads =
    subst (λ (l : Option RunRefusal). RestIsRefused files g targets (shown_all xs) l (Line r.fault) r.line) (sym some)
    (ends_refused files g targets r (shown_all xs)
    (subst (λ (l : Option RunRefusal). LeadsTo files g targets l [] (shown_all xs)) some (subst (λ (l : List Numbered). LeadsTo files g targets last l (shown_all xs)) (none_left xs k over) leads)))

-- ---- what is planned of the statements, in their order

pub planned_more : {X : Type 0} (pick : Numbered → Option X) (xs : List Written) (k : ℕ) (d : Written) (old new whole : List X) → k < length xs → new ≡ old ++ cons_option (pick (shown_numbered (get_or xs k d))) [] → old ++ filter_map pick (shown_all (drop k xs)) ≡ whole → new ++ filter_map pick (shown_all (drop (k + 1) xs)) ≡ whole
planned_more pick xs k d old new whole inside next before =
    ap (λ l. l ++ filter_map pick (shown_all (drop (k + 1) xs))) next
    ∙ front_more (pick (shown_numbered (get_or xs k d))) old (filter_map pick (shown_all (drop (k + 1) xs)))
    ∙ ap (λ l. old ++ filter_map pick l) (sym (from_place xs k d inside))
    ∙ before

pub images_more : (g h : Parts) (xs : List Written) (k : ℕ) (d : Written) (old new whole : List (ℕ × List ℕ)) → k < length xs → h ≡ g → new ≡ old ++ images_in h (shown_numbered (get_or xs k d) ∷ []) → old ++ images_in g (shown_all (drop k xs)) ≡ whole → new ++ images_in g (shown_all (drop (k + 1) xs)) ≡ whole
images_more g h xs k d old new whole inside same next before =
    planned_more (λ (s : Numbered). image_in g s.1) xs k d old new whole inside
    (next ∙ ap (λ (p : Parts). old ++ images_in p (shown_numbered (get_or xs k d) ∷ [])) same) before

pub all_planned : {X : Type 0} (pick : Numbered → Option X) (xs : List Written) (k : ℕ) (new whole : List X) → length xs ≤ k → new ++ filter_map pick (shown_all (drop k xs)) ≡ whole → new ≡ whole
all_planned pick xs k new whole over before = sym (append-nil new) ∙ ap (λ l. new ++ filter_map pick l) (sym (none_left xs k over)) ∙ before

-- ---- the whole

-- the statements after the first two
pub rest_shown : (xs rest : List Written) → rest ≡ drop 2 xs → shown_all rest ≡ drop 2 (shown_all xs)
rest_shown xs rest is = ap shown_all is ∙ sym (drop-map shown_numbered 2 xs)

plan_passes : (files : Option Store) (profile : Profile) (told : Told) (page : ℕ × List ℕ) (g : Parts) (targets : ℕ) (rest : List Numbered) → page_of told.statements ≡ Some page → HasPageAs files profile page.1 g → targets_of told.statements ≡ Some targets → rest ≡ drop 2 told.statements → RestPasses files g targets rest told.fault → PlanPasses files profile told g targets
plan_passes files profile told page g targets rest first has_page second is passes = record {
  page = page;
  has_first = first;
  has_page = has_page;
  has_targets = second;
  rest = subst (λ (l : List Numbered). RestPasses files g targets l told.fault) is passes;
}

-- the same of the geometry and the targets that the plan has
pub plan_passes_at : (files : Option Store) (profile : Profile) (told : Told) (page : ℕ × List ℕ) (g h : Parts) (targets n : ℕ) (rest : List Numbered) → h ≡ g → n ≡ targets → page_of told.statements ≡ Some page → HasPageAs files profile page.1 g → targets_of told.statements ≡ Some targets → rest ≡ drop 2 told.statements → RestPasses files g targets rest told.fault → PlanPasses files profile told h n
plan_passes_at files profile told page g h targets n rest same_geometry same_targets first has_page second is passes =
    subst (λ (p : Parts). PlanPasses files profile told p n) (sym same_geometry)
    (subst (λ (m : ℕ). PlanPasses files profile told g m) (sym same_targets) (plan_passes files profile told page g targets rest first has_page second is passes))

pub plan_refused : {A : Type 0} (files : Option Store) (profile : Profile) (told : Told) (page : ℕ × List ℕ) (g : Parts) (targets : ℕ) (rest : List Numbered) (r : Stop A) → page_of told.statements ≡ Some page → HasPageAs files profile page.1 g → targets_of told.statements ≡ Some targets → rest ≡ drop 2 told.statements → SaysAt (RestIsRefused files g targets rest told.fault) r → SaysAt (PlanIsRefused files profile told) r
plan_refused files profile told page g targets rest r first has_page second is refused =
    refused_more (RestIsRefused files g targets rest told.fault) (PlanIsRefused files profile told) r
    (λ fault line h.
    subst (λ (o : Option (ℕ × List ℕ)). PageStatementIsRefused files profile o told fault line) (sym first)
    (inr (g, has_page, subst (λ (o : Option ℕ). AfterPageIsRefused files g o told fault line) (sym second) (subst (λ (l : List Numbered). RestIsRefused files g targets l told.fault fault line) is h))))
    refused
