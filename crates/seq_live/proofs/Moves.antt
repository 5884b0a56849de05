-- Moves that are made on a running state, one after another.
use Rattle.std.proofs.Common.{◌≡◌, ℕ, zero, suc, ◌+◌, ◌-◌, ◌<◌, ◌≤◌, List, [], ◌∷◌, ◌++◌, Option, Some, None, refl, sym, ap, ◌∙◌, subst, length, replicate, take, drop, get_or, take-append-drop, arith, length-take, length-drop}
use Rattle.std.proofs.lemmas.List.{length-replicate}
use Rattle.std.proofs.lemmas.List.{drop_more}
use Rattle.nand_geometry.specs.declared.parts.Parts.{Parts}
use Rattle.onfi_cycle.specs.declared.lun.Lun.{Lun}
use Rattle.onfi_cycle.specs.declared.item.Item.{Item}
use Rattle.onfi_cycle.specs.declared.item.Kind.{Kind}
use Rattle.onfi_cycle.specs.declared.item.Kind.TheVariants.{Din, Dout}
use Rattle.onfi_cycle.specs.Channel.{Channel, cycle}
use Rattle.onfi_cycle.specs.Outputs.{with_outputs, judged_outputs}
use Rattle.onfi_cycle.specs.Inputs.{with_inputs, judged_inputs}
use Rattle.onfi_cycle.specs.State.{BusView, Follows, judged}
use Rattle.onfi_cycle.proofs.Following.{judged_is_broken}
use Rattle.onfi_cycle.proofs.Runs.{run_judged}
use Rattle.onfi_cycle.proofs.Inputs.{inputs_are_data}
use Rattle.onfi_cycle.proofs.Outputs.{outputs_are_data}
use Rattle.micro_program.specs.Moves.{Move, Give, Take, and_then, gives, outputs}
use Rattle.micro_program.specs.Played.{Played, answered, with_byte}
use Rattle.micro_program.specs.Safe.{MovesAreOwn}
use Rattle.target_bus.specs.Bus.{channel_on}
use Rattle.seq_core.proofs.Plays.{own_first, gives_append, gives_next}
use Rattle.seq_core.proofs.DataRuns.{own_run, own_inputs}
use Rattle.seq_live.specs.declared.burst.Burst.{Burst}
use Rattle.seq_live.specs.Burst.{moves_of, all_moves, AllFit}
use Rattle.seq_live.specs.Calls.{CanMove, HasMoved}

-- 1. moves that are answered one after another

abbrev played_so : List Item → List ℕ → Played
played_so past bytes = record { past = past; bytes = bytes }

-- an output that was answered
record TookAnswer (ce : ℕ) (rest : List Move) (bytes : List ℕ) (past later : List Item) : Type 0 where
  byte : ℕ
  more : List ℕ
  bytes_are : byte ∷ more ≡ bytes
  goes : answered ce rest more (cycle ce Dout byte ∷ past) ≡ Some (played_so later more)

took_answer : (ce : ℕ) (rest : List Move) (bytes : List ℕ) (past later : List Item) → answered ce (Take ∷ rest) bytes past ≡ Some (played_so later bytes) → TookAnswer ce rest bytes past later
took_answer ce rest [] past later e = cc
took_answer ce rest (byte ∷ bytes) past later e = at (answered ce rest bytes (cycle ce Dout byte ∷ past)) refl e
  where
    at : (o : Option Played) → answered ce rest bytes (cycle ce Dout byte ∷ past) ≡ o → and_then o (with_byte byte) ≡ Some (played_so later (byte ∷ bytes)) → TookAnswer ce rest (byte ∷ bytes) past later
    at None is e = cc
    at (Some q) is e =
        let whole : played_so q.past (byte ∷ q.bytes) ≡ played_so later (byte ∷ bytes) = cc in
        let pasts : q.past ≡ later = ap (λ (p : Played). p.past) whole in
        let tails : q.bytes ≡ bytes = same_tail byte q.bytes bytes (ap (λ (p : Played). p.bytes) whole) in
        record { byte = byte; more = bytes; bytes_are = refl; goes = is ∙ (ap (λ (t : List Item). Some (played_so t q.bytes)) pasts ∙ ap (λ (bs : List ℕ). Some (played_so later bs)) tails) }
      where
        same_tail : (x : ℕ) (xs ys : List ℕ) → x ∷ xs ≡ x ∷ ys → xs ≡ ys
        same_tail x xs ys h = cc

answered_take : (ce : ℕ) (rest : List Move) (byte : ℕ) (bytes : List ℕ) (past later : List Item) → answered ce rest bytes (cycle ce Dout byte ∷ past) ≡ Some (played_so later bytes) → answered ce (Take ∷ rest) (byte ∷ bytes) past ≡ Some (played_so later (byte ∷ bytes))
answered_take ce rest byte bytes past later e = rw e refl

no_bytes : (xs : List ℕ) (past later : List Item) (ce : ℕ) → answered ce [] xs past ≡ Some (played_so later xs) → (xs ≡ []) × (past ≡ later)
no_bytes [] past later ce e = (refl, same e)
  where
    same : Some (played_so past []) ≡ Some (played_so later []) → past ≡ later
    same h = let whole : played_so past [] ≡ played_so later [] = cc in ap (λ (p : Played). p.past) whole
no_bytes (x ∷ xs) past later ce e = cc

pub answered_append : (ce : ℕ) (a b : List Move) (xs ys : List ℕ) (p q r : List Item) → answered ce a xs p ≡ Some (played_so q xs) → answered ce b ys q ≡ Some (played_so r ys) → answered ce (a ++ b) (xs ++ ys) p ≡ Some (played_so r (xs ++ ys))
answered_append ce [] b xs ys p q r h k =
    let n = no_bytes xs p q ce h in
    subst (λ (zs : List ℕ). answered ce b (zs ++ ys) p ≡ Some (played_so r (zs ++ ys))) (sym n.0) (subst (λ (t : List Item). answered ce b ys t ≡ Some (played_so r ys)) (sym n.1) k)
answered_append ce (Give kind byte ∷ a) b xs ys p q r h k = answered_append ce a b xs ys (cycle ce kind byte ∷ p) q r h k
answered_append ce (Take ∷ a) b xs ys p q r h k =
    let t = took_answer ce a xs p q h in
    subst (λ (zs : List ℕ). answered ce (Take ∷ (a ++ b)) (zs ++ ys) p ≡ Some (played_so r (zs ++ ys))) t.bytes_are
    (answered_take ce (a ++ b) t.byte (t.more ++ ys) p r (answered_append ce a b t.more ys (cycle ce Dout t.byte ∷ p) q r t.goes k))

-- what is own behind moves that were answered
pub own_after : (s : Channel) (l : Lun) (a b : List Move) (past later : List Item) (bytes : List ℕ) → MovesAreOwn s l (a ++ b) past → answered l.ce a bytes past ≡ Some (played_so later bytes) → MovesAreOwn s l b later
own_after s l [] b past later bytes h k = subst (λ (t : List Item). MovesAreOwn s l b t) (no_bytes bytes past later l.ce k).1 h
own_after s l (Give kind byte ∷ a) b past later bytes h k = own_after s l a b (cycle l.ce kind byte ∷ past) later bytes h.1 k
own_after s l (Take ∷ a) b past later bytes h k =
    let t = took_answer l.ce a bytes past later k in
    own_after s l a b (cycle l.ce Dout t.byte ∷ past) later t.more (h t.byte).1 t.goes

-- 2. on a state

pub none_moved : (s : BusView) (ce : ℕ) → HasMoved s s ce [] []
none_moved s ce g n past f = (past, refl, f)

pub moved_more : (a b c : BusView) (ce : ℕ) (m1 m2 : List Move) (x1 x2 : List ℕ) → HasMoved a b ce m1 x1 → HasMoved b c ce m2 x2 → HasMoved a c ce (m1 ++ m2) (x1 ++ x2)
moved_more a b c ce m1 m2 x1 x2 h k g n past f =
    let one = h g n past f in
    let two = k g n one.0 one.2 in
    (two.0, answered_append ce m1 m2 x1 x2 past one.0 two.0 one.1 two.1, two.2)

pub can_first : (s : BusView) (l : Lun) (a b : List Move) → CanMove s l (a ++ b) → CanMove s l a
can_first s l a b c = record { geometry = c.geometry; targets = c.targets; past = c.past; follows = c.follows; own = own_first (channel_on c.geometry c.targets []) l a b c.past c.own }

pub can_rest : (s t : BusView) (l : Lun) (a b : List Move) (bytes : List ℕ) → CanMove s l (a ++ b) → HasMoved s t l.ce a bytes → CanMove t l b
can_rest s t l a b bytes c h =
    let one = h c.geometry c.targets c.past c.follows in
    record { geometry = c.geometry; targets = c.targets; past = one.0; follows = one.2; own = own_after (channel_on c.geometry c.targets []) l a b c.past one.0 bytes c.own one.1 }

-- 3. one cycle that is given

pub can_give : (s : BusView) (l : Lun) (kind : Kind) (byte : ℕ) (rest : List Move) → CanMove s l (Give kind byte ∷ rest) → judged s (cycle l.ce kind byte) ≡ None
can_give s l kind byte rest c = judged_is_broken c.geometry c.targets s c.past (cycle l.ce kind byte) c.follows ∙ c.own.0.permitted

pub given : (s t : BusView) (ce : ℕ) (kind : Kind) (byte : ℕ) → ((g : Parts) (n : ℕ) (past : List Item) → Follows g n s past → Follows g n t (cycle ce kind byte ∷ past)) → HasMoved s t ce (Give kind byte ∷ []) []
given s t ce kind byte h g n past f = (cycle ce kind byte ∷ past, refl, h g n past f)

-- bytes that are given one after another
pub next_given : (a b : BusView) (l : Lun) (kind : Kind) (bytes : List ℕ) (k d : ℕ) → k < length bytes → CanMove a l (gives kind bytes) → HasMoved a b l.ce (gives kind (take k bytes)) [] → CanMove b l (Give kind (get_or bytes k d) ∷ [])
next_given a b l kind bytes k d below can h =
    let split : gives kind bytes ≡ gives kind (take k bytes) ++ gives kind (drop k bytes) = ap (gives kind) (sym (take-append-drop k bytes)) ∙ gives_append kind (take k bytes) (drop k bytes) in
    let rest = can_rest a b l (gives kind (take k bytes)) (gives kind (drop k bytes)) [] (subst (CanMove a l) split can) h in
    can_first b l (Give kind (get_or bytes k d) ∷ []) (gives kind (drop (k + 1) bytes)) (subst (λ (bs : List ℕ). CanMove b l (gives kind bs)) (drop_more bytes k d below) rest)

pub more_given : (a b c : BusView) (ce : ℕ) (kind : Kind) (bytes : List ℕ) (k d : ℕ) → k < length bytes → HasMoved a b ce (gives kind (take k bytes)) [] → HasMoved b c ce (Give kind (get_or bytes k d) ∷ []) [] → HasMoved a c ce (gives kind (take (k + 1) bytes)) []
more_given a b c ce kind bytes k d below h one =
    subst (λ (ms : List Move). HasMoved a c ce ms []) (sym (gives_next kind bytes k d below)) (moved_more a b c ce (gives kind (take k bytes)) (Give kind (get_or bytes k d) ∷ []) [] [] h one)

-- 4. runs of data

pub can_take : (s : BusView) (l : Lun) (len : ℕ) → CanMove s l (replicate len Take) → judged_outputs l.ce len s ≡ None
can_take s l len c =
    let run = own_run (channel_on c.geometry c.targets []) l len c.past c.own in
    ap (λ (k : ℕ). judged_outputs l.ce k s) (sym run.count) ∙ (run_judged Dout outputs_are_data c.geometry c.targets l.ce run.bytes s c.past c.follows ∙ run.permitted)

takes_answer : (ce : ℕ) (bytes : List ℕ) (past : List Item) → answered ce (replicate (length bytes) Take) bytes past ≡ Some (played_so (with_outputs ce bytes past) bytes)
takes_answer ce [] past = refl
takes_answer ce (byte ∷ bytes) past = answered_take ce (replicate (length bytes) Take) byte bytes past (with_outputs ce bytes (cycle ce Dout byte ∷ past)) (takes_answer ce bytes (cycle ce Dout byte ∷ past))

pub taken : (s t : BusView) (ce len : ℕ) (bytes : List ℕ) → length bytes ≡ len → ((g : Parts) (n : ℕ) (past : List Item) (xs : List ℕ) → Follows g n s past → length xs ≡ len → Follows g n t (with_outputs ce xs past)) → HasMoved s t ce (replicate len Take) bytes
taken s t ce len bytes size h g n past f =
    (with_outputs ce bytes past, subst (λ (k : ℕ). answered ce (replicate k Take) bytes past ≡ Some (played_so (with_outputs ce bytes past) bytes)) size (takes_answer ce bytes past), h g n past bytes f size)

pub can_feed : (s : BusView) (l : Lun) (bytes : List ℕ) (len : ℕ) → length bytes ≡ len → CanMove s l (gives Din bytes) → judged_inputs l.ce len s ≡ None
can_feed s l bytes len size c =
    ap (λ (k : ℕ). judged_inputs l.ce k s) (sym size) ∙ (run_judged Din inputs_are_data c.geometry c.targets l.ce bytes s c.past c.follows ∙ own_inputs (channel_on c.geometry c.targets []) l bytes c.past c.own)

feeds_answer : (ce : ℕ) (bytes : List ℕ) (past : List Item) → answered ce (gives Din bytes) [] past ≡ Some (played_so (with_inputs ce bytes past) [])
feeds_answer ce [] past = refl
feeds_answer ce (byte ∷ bytes) past = feeds_answer ce bytes (cycle ce Din byte ∷ past)

pub fed : (s t : BusView) (ce len : ℕ) (bytes : List ℕ) → length bytes ≡ len → ((g : Parts) (n : ℕ) (past : List Item) (xs : List ℕ) → Follows g n s past → length xs ≡ len → Follows g n t (with_inputs ce xs past)) → HasMoved s t ce (gives Din bytes) []
fed s t ce len bytes size h g n past f = (with_inputs ce bytes past, feeds_answer ce bytes past, h g n past bytes f size)

-- 5. bursts, one after another: the bytes of the first and those of the rest

outputs_append : (a b : List Move) → outputs (a ++ b) ≡ outputs a + outputs b
outputs_append [] b = omega arith
outputs_append (Give kind byte ∷ a) b = outputs_append a b
outputs_append (Take ∷ a) b = let rest = outputs_append a b in omega (arith, rest)

pub first_outputs : (a b : List Move) (bytes : List ℕ) → length bytes ≡ outputs (a ++ b) → length (take (outputs a) bytes) ≡ outputs a
first_outputs a b bytes size = let both = outputs_append a b in omega (arith, length-take (outputs a) bytes, both, size)

pub rest_outputs : (a b : List Move) (bytes : List ℕ) → length bytes ≡ outputs (a ++ b) → length (drop (outputs a) bytes) ≡ outputs b
rest_outputs a b bytes size = let both = outputs_append a b in omega (arith, length-drop (outputs a) bytes, both, size)

pub moved_both : (a b c : BusView) (ce : ℕ) (m1 m2 : List Move) (bytes : List ℕ) → length bytes ≡ outputs (m1 ++ m2) → ((xs : List ℕ) → length xs ≡ outputs m1 → HasMoved a b ce m1 xs) → ((xs : List ℕ) → length xs ≡ outputs m2 → HasMoved b c ce m2 xs) → HasMoved a c ce (m1 ++ m2) bytes
moved_both a b c ce m1 m2 bytes size h k =
    subst (HasMoved a c ce (m1 ++ m2)) (take-append-drop (outputs m1) bytes)
    (moved_more a b c ce m1 m2 (take (outputs m1) bytes) (drop (outputs m1) bytes) (h (take (outputs m1) bytes) (first_outputs m1 m2 bytes size)) (k (drop (outputs m1) bytes) (rest_outputs m1 m2 bytes size)))

-- some bytes of outputs, to name a state in between
pub some_bytes : (n : ℕ) → (bytes : List ℕ) × (length bytes ≡ n)
some_bytes n = (replicate n 0, length-replicate n 0)

-- what is given takes no bytes
pub none_taken : (kind : Kind) (xs bytes : List ℕ) → length bytes ≡ outputs (gives kind xs) → bytes ≡ []
none_taken kind [] [] size = refl
none_taken kind [] (byte ∷ bytes) size = cc
none_taken kind (x ∷ xs) bytes size = none_taken kind xs bytes size

pub given_all : (s t : BusView) (ce : ℕ) (kind : Kind) (xs ys bytes : List ℕ) → ys ≡ xs → HasMoved s t ce (gives kind ys) [] → length bytes ≡ outputs (gives kind xs) → HasMoved s t ce (gives kind xs) bytes
given_all s t ce kind xs ys bytes same h size =
    subst (HasMoved s t ce (gives kind xs)) (sym (none_taken kind xs bytes size)) (subst (λ (zs : List ℕ). HasMoved s t ce (gives kind zs) []) same h)

outputs_of_takes : (len : ℕ) → outputs (replicate len Take) ≡ len
outputs_of_takes zero = refl
outputs_of_takes (suc len) = let rest = outputs_of_takes len in omega (arith, rest)

pub taken_all : (s t : BusView) (ce len : ℕ) (bytes : List ℕ) → ((xs : List ℕ) → length xs ≡ len → HasMoved s t ce (replicate len Take) xs) → length bytes ≡ outputs (replicate len Take) → HasMoved s t ce (replicate len Take) bytes
taken_all s t ce len bytes h size = h bytes (size ∙ outputs_of_takes len)

-- by the burst that it is
pub by_burst : (s t : BusView) (ce : ℕ) (buffer : List ℕ) (b d : Burst) → b ≡ d → ((xs : List ℕ) → length xs ≡ outputs (moves_of buffer d) → HasMoved s t ce (moves_of buffer d) xs) → (bytes : List ℕ) → length bytes ≡ outputs (moves_of buffer b) → HasMoved s t ce (moves_of buffer b) bytes
by_burst s t ce buffer b d is h bytes size =
    subst (λ (x : Burst). HasMoved s t ce (moves_of buffer x) bytes) (sym is) (h bytes (subst (λ (x : Burst). length bytes ≡ outputs (moves_of buffer x)) is size))

-- bursts one after another
pub first_can : (s : BusView) (l : Lun) (buffer : List ℕ) (bursts : List Burst) (first : Burst) (rest : List Burst) → bursts ≡ first ∷ rest → CanMove s l (all_moves buffer bursts) → CanMove s l (moves_of buffer first)
first_can s l buffer bursts first rest is can = can_first s l (moves_of buffer first) (all_moves buffer rest) (subst (λ (bs : List Burst). CanMove s l (all_moves buffer bs)) is can)

pub rest_can : (s t : BusView) (l : Lun) (buffer : List ℕ) (bursts : List Burst) (first : Burst) (rest : List Burst) → bursts ≡ first ∷ rest → CanMove s l (all_moves buffer bursts) → ((bytes : List ℕ) → length bytes ≡ outputs (moves_of buffer first) → HasMoved s t l.ce (moves_of buffer first) bytes) → CanMove t l (all_moves buffer rest)
rest_can s t l buffer bursts first rest is can h =
    let some = some_bytes (outputs (moves_of buffer first)) in
    can_rest s t l (moves_of buffer first) (all_moves buffer rest) some.0 (subst (λ (bs : List Burst). CanMove s l (all_moves buffer bs)) is can) (h some.0 some.1)

pub all_moved : (s t u : BusView) (ce : ℕ) (buffer : List ℕ) (bursts : List Burst) (first : Burst) (rest : List Burst) → bursts ≡ first ∷ rest → ((bytes : List ℕ) → length bytes ≡ outputs (moves_of buffer first) → HasMoved s t ce (moves_of buffer first) bytes) → ((bytes : List ℕ) → length bytes ≡ outputs (all_moves buffer rest) → HasMoved t u ce (all_moves buffer rest) bytes) → (bytes : List ℕ) → length bytes ≡ outputs (all_moves buffer bursts) → HasMoved s u ce (all_moves buffer bursts) bytes
all_moved s t u ce buffer bursts first rest is h k bytes size =
    subst (λ (bs : List Burst). HasMoved s u ce (all_moves buffer bs) bytes) (sym is)
    (moved_both s t u ce (moves_of buffer first) (all_moves buffer rest) bytes (subst (λ (bs : List Burst). length bytes ≡ outputs (all_moves buffer bs)) is size) h k)

pub none_to_do : (s : BusView) (ce : ℕ) (buffer : List ℕ) (bursts : List Burst) → bursts ≡ [] → (bytes : List ℕ) → length bytes ≡ outputs (all_moves buffer bursts) → HasMoved s s ce (all_moves buffer bursts) bytes
none_to_do s ce buffer bursts is bytes size = subst (λ (bs : List Burst). length bytes ≡ outputs (all_moves buffer bs) → HasMoved s s ce (all_moves buffer bs) bytes) (sym is) (at bytes) size
  where
    at : (xs : List ℕ) → length xs ≡ 0 → HasMoved s s ce [] xs
    at [] h = none_moved s ce
    at (x ∷ xs) h = cc

-- a list that isn't empty, by its first and the rest of it
pub first_and_rest : {X : Type 0} (xs : List X) (d : X) → 1 ≤ length xs → xs ≡ get_or xs 0 d ∷ take (length xs - 1) (drop 1 xs)
first_and_rest {X = X} [] d h = absurd (omega (arith, h))
first_and_rest {X = X} (x ∷ xs) d h =
    let count : length (x ∷ xs) - 1 ≡ length xs = omega arith in
    ap (λ (ys : List X). x ∷ ys) (sym (ap (λ (n : ℕ). take n xs) count ∙ take_whole xs))
  where
    take_whole : (ys : List X) → take (length ys) ys ≡ ys
    take_whole [] = refl
    take_whole (y ∷ ys) = ap (λ (zs : List X). y ∷ zs) (take_whole ys)

pub rest_fits : (buffer : ℕ) (bursts : List Burst) (first : Burst) (rest : List Burst) → bursts ≡ first ∷ rest → AllFit buffer bursts → AllFit buffer rest
rest_fits buffer bursts first rest is fit = (subst (AllFit buffer) is fit).1
