-- The walk over the words of a text, and the lines that it accepts.
use Rattle.std.proofs.Common.{◌≡◌, ℕ, zero, suc, ◌+◌, ◌<◌, ◌≤◌, ◌==◌, Bool, true, false, ◌||◌, cond, List, [], ◌∷◌, Option, Some, None, refl, sym, ap, ◌∙◌, arith, length, drop, get_or}
use Rattle.std.specs.Prelude.{replicate}
use Rattle.std.proofs.Math.Seq.{drop-cons}
use Rattle.std.proofs.lemmas.Bool.{and_parts}
use Rattle.nand_geometry.specs.declared.parts.Parts.{Parts}
use Rattle.micro_word.specs.declared.word.Word.{Word}
use Rattle.micro_word.specs.declared.word.Word.TheVariants.{End, BranchOnStatus, Loop, Next, Jump}
use Rattle.micro_word.specs.Text.{Microprogram}
use Rattle.micro_claims.specs.declared.refusal.Reason.{Reason}
use Rattle.micro_claims.specs.declared.refusal.Fault.{Fault}
use Rattle.micro_program.specs.Lines.{unrolled, leads_on, all_lead_on, lines_from}
use Rattle.micro_program.specs.Safe.{is_end, IsSafe}
use Rattle.micro_claims.specs.declared.state.State.{State}
use Rattle.micro_claims.specs.declared.bounds.Bounds.{Bounds}
use Rattle.micro_claims.specs.State.{bounds_of, first_state}
use Rattle.micro_claims.specs.Reasons.{reason_against}
use Rattle.micro_claims.specs.Accepts.{state_after, goes_on, accepts}
use Rattle.micro_claims.specs.Certificate.{claim}
use Rattle.micro_walk.specs.Shape.{ends, first_where, is_unpaired, is_too_deep, leads_astray, or_fault, shape_fault}
use Rattle.micro_walk.specs.Faults.{met, reached, led_from, known_first, reason_at, onward, fault_or, followed, walked, is_loop, has_loop, fault_within}
use Rattle.micro_program.proofs.Leading.{leading_lines}
use Rattle.micro_claims.proofs.AcceptedLines.{accepted_is_safe}
use Rattle.micro_walk.proofs.Ahead.{claim_there, claim_elsewhere, led_from_length, known_length, passed, ends_behind, some_behind}

-- 1. the walk, place by place

walked_on : (g : Parts) (b : Bounds) (at : ℕ) (o : Option State) (words : List Word) (d : Word) → at < length words → walked g b at o (drop at words) ≡ fault_or (reason_at g b o (get_or words at d)) at (walked g b (at + 1) (onward g o (get_or words at d)) (drop (at + 1) words))
walked_on g b at o words d h =
    let next : suc at ≡ at + 1 = omega arith in
    ap (walked g b at o) (drop-cons words at d h ∙ ap (λ (k : ℕ). get_or words at d ∷ drop k words) next)

pub walk_goes_on : (g : Parts) (b : Bounds) (at : ℕ) (o new : Option State) (words : List Word) (d : Word) (before : Option Fault) → at < length words → before ≡ walked g b at o (drop at words) → reason_at g b o (get_or words at d) ≡ None → new ≡ onward g o (get_or words at d) → before ≡ walked g b (at + 1) new (drop (at + 1) words)
walk_goes_on g b at o new words d before h e none is =
    e ∙ (walked_on g b at o words d h ∙ (ap (λ (r : Option Reason). fault_or r at (walked g b (at + 1) (onward g o (get_or words at d)) (drop (at + 1) words))) none ∙ ap (λ (x : Option State). walked g b (at + 1) x (drop (at + 1) words)) (sym is)))

-- 2. what the walk passes is accepted

-- a word that leads on goes to the next line, or is an `end`
goes_by : (word : Word) (rest : Option ℕ → Bool) → leads_on word ≡ true → (is_end word ≡ false → rest None ≡ true) → goes_on word rest ≡ true
goes_by (End code) rest leads h = refl
goes_by (BranchOnStatus mask target) rest leads h = cc
goes_by (Jump target) rest leads h = cc
goes_by (Loop turns) rest leads h = cc
goes_by Next rest leads h = cc
goes_by _ rest leads h = h refl

accepts_walked : (g : Parts) (b : Bounds) (at : ℕ) (s : State) (words : List Word) → all_lead_on words ≡ true → walked g b at (Some s) words ≡ None → 0 < length words → ends words ≡ true → accepts g b None s (lines_from words at) ≡ true
accepts_walked g b at s [] leads h some end = absurd (omega (arith, some))
accepts_walked g b at s (word ∷ words) leads h some end =
    let parts = and_parts (leads_on word) (all_lead_on words) leads in
    let p = passed (reason_against g b s word) at (walked g b (at + 1) (onward g (Some s) word) words) h in
    rw (p.here)
    (goes_by word (λ t. accepts g b t (state_after g s word) (lines_from words (at + 1))) parts.0
    (λ e.
    (let behind = some_behind word words end e in
    accepts_walked g b (at + 1) (state_after g s word) words parts.1 (ap (λ (x : Bool). walked g b (at + 1) (cond x None (Some (state_after g s word))) words) (sym e) ∙ p.later_on) behind (ends_behind word words behind end))))

pub walked_is_safe : (text : Microprogram) (g : Parts) → 1 ≤ text.rows → all_lead_on text.words ≡ true → 0 < length text.words → ends text.words ≡ true → walked g (bounds_of text) 0 (Some first_state) text.words ≡ None → IsSafe text g
unfolding unrolled
walked_is_safe text g rows leads some end none =
    accepted_is_safe text g rows (ap (accepts g (bounds_of text) None first_state) (leading_lines text.words 0 leads) ∙ accepts_walked g (bounds_of text) 0 first_state text.words leads none some end)

-- 3. in a text without branches and loops one way leads to each word

straight : (g : Parts) (b : Bounds) (words : List Word) (at : ℕ) (known : List (Option State)) (o : Option State) → length known ≡ at + length words → claim known at ≡ o → ((p : ℕ) → at < p → claim known p ≡ None) → all_lead_on words ≡ true → followed g b known at words ≡ walked g b at o words
straight g b [] at known o long is none leads = refl
straight g b (word ∷ []) at known o long is none leads = ap (λ (x : Option State). fault_or (reason_at g b x word) at None) is
straight g b (word ∷ (later ∷ rest)) at known o long is none leads =
    let parts = and_parts (leads_on word) (all_lead_on (later ∷ rest)) leads in
    let new = led_from g known at o word in
    ap (λ (x : Option State). fault_or (reason_at g b x word) at (followed g b (led_from g known at x word) (at + 1) (later ∷ rest))) is
    ∙ ap (fault_or (reason_at g b o word) at)
    (straight g b (later ∷ rest) (at + 1) new (onward g o word) (led_from_length g known at o word ∙ (long ∙ omega arith)) (next o word parts.0) (λ p less. after o word p less parts.0) parts.1)
  where
    inside : at + 1 < length known
    inside = omega (arith, long)

    reached_next : (t : State) → claim (reached known (at + 1) t) (at + 1) ≡ Some t
    reached_next t = claim_there known (at + 1) (Some (met (claim known (at + 1)) t)) inside ∙ ap (λ (x : Option State). Some (met x t)) (none (at + 1) (omega arith))

    next : (x : Option State) (w : Word) → leads_on w ≡ true → claim (led_from g known at x w) (at + 1) ≡ onward g x w
    next None w h = none (at + 1) (omega arith)
    next (Some s) (End code) h = none (at + 1) (omega arith)
    next (Some s) (BranchOnStatus mask target) h = absurd cc
    next (Some s) (Jump target) h = absurd cc
    next (Some s) (Loop turns) h = absurd cc
    next (Some s) Next h = absurd cc
    next (Some s) w h = reached_next _

    past : (t : State) (p : ℕ) → at + 1 < p → claim (reached known (at + 1) t) p ≡ None
    past t p less = claim_elsewhere known (at + 1) p (Some (met (claim known (at + 1)) t)) (λ e. omega (arith, e, less)) ∙ none p (omega (arith, less))

    after : (x : Option State) (w : Word) (p : ℕ) → at + 1 < p → leads_on w ≡ true → claim (led_from g known at x w) p ≡ None
    after None w p less h = none p (omega (arith, less))
    after (Some s) (End code) p less h = none p (omega (arith, less))
    after (Some s) (BranchOnStatus mask target) p less h = absurd cc
    after (Some s) (Jump target) p less h = absurd cc
    after (Some s) (Loop turns) p less h = absurd cc
    after (Some s) Next p less h = absurd cc
    after (Some s) w p less h = past _ p less

nothing_known : (count p : ℕ) → claim (replicate {A = Option State} count None) p ≡ None
nothing_known zero p = refl
nothing_known (suc count) zero = refl
nothing_known (suc count) (suc p) = nothing_known count p

pub straight_followed : (g : Parts) (b : Bounds) (words : List Word) → all_lead_on words ≡ true → followed g b (known_first words) 0 words ≡ walked g b 0 (Some first_state) words
straight_followed g b [] leads = refl
straight_followed g b (word ∷ words) leads =
    straight g b (word ∷ words) 0 (known_first (word ∷ words)) (Some first_state) (known_length (word ∷ words) ∙ omega arith) refl
    (λ p less. (claim_elsewhere (replicate (suc (length words)) None) 0 p (Some first_state) (λ e. omega (arith, e, less)) ∙ nothing_known (suc (length words)) p)) leads

-- 5. the fault of such a text

pub no_loop : (words : List Word) → all_lead_on words ≡ true → has_loop words ≡ false
no_loop [] h = refl
no_loop (word ∷ words) h =
    let parts = and_parts (leads_on word) (all_lead_on words) h in
    is word parts.0 (no_loop words parts.1)
  where
    is : (w : Word) → leads_on w ≡ true → has_loop words ≡ false → (is_loop w || has_loop words) ≡ false
    is (Loop turns) h e = absurd cc
    is w h e = e

pub straight_fault : (g : Parts) (b : Bounds) (words : List Word) → all_lead_on words ≡ true → fault_within g b words ≡ or_fault (shape_fault words) (walked g b 0 (Some first_state) words)
straight_fault g b words leads =
    ap (or_fault (shape_fault words)) (ap (λ (x : Bool). cond x None (followed g b (known_first words) 0 words)) (no_loop words leads) ∙ straight_followed g b words leads)

-- nothing of such a text is misshapen, if it ends
none_where : (is_so : ℕ → Word → Bool) (at : ℕ) (words : List Word) → all_lead_on words ≡ true → ((k : ℕ) (word : Word) → leads_on word ≡ true → is_so k word ≡ false) → first_where is_so at words ≡ None
none_where is_so at [] leads never = refl
none_where is_so at (word ∷ words) leads never =
    let parts = and_parts (leads_on word) (all_lead_on words) leads in
    rw (never at word parts.0) (none_where is_so (at + 1) words parts.1 never)

paired : (words : List Word) (k : ℕ) (word : Word) → leads_on word ≡ true → is_unpaired words k word ≡ false
paired words k (Loop turns) h = absurd cc
paired words k Next h = absurd cc
paired words k word h = refl

not_deep : (words : List Word) (k : ℕ) (word : Word) → leads_on word ≡ true → is_too_deep words k word ≡ false
not_deep words k (Loop turns) h = absurd cc
not_deep words k word h = refl

not_astray : (words : List Word) (k : ℕ) (word : Word) → leads_on word ≡ true → leads_astray words k word ≡ false
not_astray words k (BranchOnStatus mask target) h = absurd cc
not_astray words k (Jump target) h = absurd cc
not_astray words k word h = refl

pub straight_shape : (words : List Word) → all_lead_on words ≡ true → (length words == 0) ≡ false → ends words ≡ true → shape_fault words ≡ None
straight_shape words leads some end =
    rw (some, none_where (is_unpaired words) 0 words leads (paired words), none_where (is_too_deep words) 0 words leads (not_deep words), none_where (leads_astray words) 0 words leads (not_astray words), end) refl
