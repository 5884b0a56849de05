-- What is put to jobs as their ends was given back.
use Rattle.std.proofs.Common.{◌≡◌, ℕ, zero, suc, ◌<◌, List, [], ◌∷◌, ◌++◌, map, length, get_or, set, arith, Option, Some, None, refl, sym, ap, ◌∙◌, subst}
use Rattle.std.specs.List.{AllByRecursion, Contains}
use Rattle.std.specs.Option.{option_copied}
use Rattle.std.proofs.lemmas.List.{map-append}
use Rattle.std.proofs.lemmas.List.Elements.{Contains-append_left, Contains-push}
use Rattle.channel_work.specs.declared.stored.Name.{Name}
use Rattle.channel_work.specs.declared.stored.NamedJob.{NamedJob}
use Rattle.channel_work.specs.Channel.{Ended}
use Rattle.channel_work.specs.Done.{ended_of}
use Rattle.seq_run.specs.declared.job_ends.Ending.{Ending}
use Rattle.seq_run.specs.declared.job_ends.EndedJob.{EndedJob}
use Rattle.run_plan.specs.declared.plan.PlannedJob.{PlannedJob}
use Rattle.run_plan.specs.Planned.{planned_outputs, planned_names}
use Rattle.seq_run.specs.Happened.{said_of}
use Rattle.seq_run.specs.Endings.{given_of, told_of, ending_outputs, ending_names, opened, IsGiven, AllGiven, PutsGiven, PutsAllGiven}

-- another end in its place, whose buffer goes to the same path
pub outputs_stay : (endings : List Ending) (k : ℕ) (ending d : Ending) → k < length endings → ending.output ≡ (get_or endings k d).output → ending_outputs (set endings k ending) ≡ ending_outputs endings
outputs_stay [] k ending d inside same = refl
outputs_stay (x ∷ endings) zero ending d inside same = ap (λ o. option_copied o ∷ ending_outputs endings) same
outputs_stay (x ∷ endings) (suc k) ending d inside same = ap (λ (l : List (Option (List ℕ))). option_copied x.output ∷ l) (outputs_stay endings k ending d (omega arith) same)

-- another end of the same name in its place
pub names_stay : (endings : List Ending) (k : ℕ) (ending d : Ending) → k < length endings → ending.name ≡ (get_or endings k d).name → ending_names (set endings k ending) ≡ ending_names endings
names_stay [] k ending d inside same = refl
names_stay (x ∷ endings) zero ending d inside same = ap (λ n. n ∷ ending_names endings) same
names_stay (x ∷ endings) (suc k) ending d inside same = ap (λ (l : List Name). x.name ∷ l) (names_stay endings k ending d (omega arith) same)

set_given : (all : List Ended) (endings : List Ending) (k : ℕ) (ending : Ending) → IsGiven all (given_of ending) → AllGiven all endings → AllGiven all (set endings k ending)
set_given all [] k ending h each = each
set_given all (x ∷ endings) zero ending h each = (h, each.1)
set_given all (x ∷ endings) (suc k) ending h each = (each.0, set_given all endings k ending h each.1)

pub one_given : (endings : List Ending) (k : ℕ) (ending : Ending) (given : Ended) → given_of ending ≡ Some given → PutsGiven given endings (set endings k ending)
one_given endings k ending given is all h each = set_given all endings k ending (subst (IsGiven all) (sym is) h) each

pub none_put : (given : Ended) (endings : List Ending) → PutsGiven given endings endings
none_put given endings all h each = each

-- what has been put is among all, and so is what is left to put
pub record Puts (all left : List Ended) (old new : List Ending) : Type 0 where
  pub given : PutsAllGiven all old new
  pub rest : (given : Ended) → Contains left given → Contains all given

pub puts_first : (all : List Ended) (endings : List Ending) → Puts all all endings endings
puts_first all endings = record { given = λ more within each. each; rest = λ given h. h }

-- the last of those that are left is put
pub puts_next : {A : Type 0} (all : List Ended) (items left : List (NamedJob A)) (named : NamedJob A) (old now new : List Ending) → items ≡ left ++ named ∷ [] → PutsGiven (ended_of named) now new → Puts all (map ended_of items) old now → Puts all (map ended_of left) old new
puts_next {A} all items left named old now new is put puts =
    let front = map ended_of left in
    let both = subst (λ (l : List Ended). (given : Ended) → Contains l given → Contains all given)
    (ap (λ (l : List (NamedJob A)). map ended_of l) is ∙ map-append ended_of left (named ∷ [])) puts.rest in
    record {
      given = λ more within each. put more (within (ended_of named) (both (ended_of named) (Contains-push front (ended_of named)))) (puts.given more within each);
      rest = λ given h. both given (Contains-append_left front (ended_of named ∷ []) given h);
    }

pub all_given : (all left : List Ended) (old new : List Ending) → Puts all left old new → PutsAllGiven all old new
all_given all left old new puts = puts.given

-- ---- all jobs

pub outputs_of_opened : (jobs : List PlannedJob) → ending_outputs (map opened jobs) ≡ planned_outputs jobs
outputs_of_opened [] = refl
outputs_of_opened (job ∷ jobs) = ap (λ (l : List (Option (List ℕ))). option_copied job.output ∷ l) (outputs_of_opened jobs)

pub names_of_opened : (jobs : List PlannedJob) → ending_names (map opened jobs) ≡ planned_names jobs
names_of_opened [] = refl
names_of_opened (job ∷ jobs) = ap (λ (l : List Name). job.name ∷ l) (names_of_opened jobs)

none_given : (all : List Ended) (jobs : List PlannedJob) → AllGiven all (map opened jobs)
none_given all [] = tt
none_given all (job ∷ jobs) = (tt, none_given all jobs)

each_given : (all : List Ended) (endings : List Ending) → AllGiven all endings → AllByRecursion (IsGiven all) (map given_of endings)
each_given all [] each = tt
each_given all (x ∷ endings) each = (each.0, each_given all endings each.1)

each_said : (all : List Ended) (jobs : List EndedJob) → AllByRecursion (IsGiven all) (map told_of jobs) → AllByRecursion (λ (job : EndedJob). Contains all (said_of job)) jobs
each_said all [] each = tt
each_said all (job ∷ jobs) each = (each.0, each_said all jobs each.1)

-- what is said of each job after its end was given
pub were_given : (all : List Ended) (planned : List PlannedJob) (old new : List Ending) (jobs : List EndedJob) → old ≡ map opened planned → PutsAllGiven all old new → map told_of jobs ≡ map given_of new → AllByRecursion (λ (job : EndedJob). Contains all (said_of job)) jobs
were_given all planned old new jobs is puts said =
    each_said all jobs (subst (AllByRecursion (IsGiven all)) (sym said) (each_given all new (puts all (λ given h. h) (subst (AllGiven all) (sym is) (none_given all planned)))))
