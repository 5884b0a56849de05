-- Moves that are own are played, and what they add is their LUN's own.
use Rattle.std.proofs.Common.{◌≡◌, ℕ, length, arith, ◌==◌, Bool, true, false, not, ◌&&◌, cond, List, [], ◌∷◌, ◌++◌, Option, Some, None, refl, sym, subst, ltb}
use Rattle.std.proofs.lemmas.Bool.{and_parts}
use Rattle.nand_geometry.specs.Row.{row_bytes_of}
use Rattle.onfi_cycle.specs.declared.lun.Lun.{Lun}
use Rattle.onfi_cycle.specs.declared.item.Item.{Item}
use Rattle.onfi_cycle.specs.declared.item.Item.TheVariants.{Cyc}
use Rattle.onfi_cycle.specs.declared.item.Cycle.{Cycle}
use Rattle.onfi_cycle.specs.declared.item.Kind.{Kind}
use Rattle.onfi_cycle.specs.declared.item.Kind.TheVariants.{Cmd, Adr, Dout}
use Rattle.onfi_cycle.specs.Effect.{is_shared}
use Rattle.onfi_cycle.specs.Permitted.{is_legal}
use Rattle.onfi_cycle.specs.Channel.{Channel, IsChannel, IsOwn, cycle, bus_byte, is_open_on}
use Rattle.micro_program.specs.Moves.{Move, Give, Take, and_then, gives, poll, outputs}
use Rattle.micro_program.specs.Program.{Job}
use Rattle.micro_program.specs.Played.{Played, answered, played, with_byte}
use Rattle.micro_program.specs.Safe.{MovesAreOwn, cycles_on, AllOwn, AddsOwn}
use Rattle.micro_program.proofs.Below.{facts, outputs as outputs_show}

-- what moves leave that come after a past, which itself added to a start
pub record Walked (s : Channel) (l : Lun) (moved : List Move) (bytes : List ℕ) (start past : List Item) : Type 0 where
  pub p : Played
  pub is_p : answered l.ce moved bytes past ≡ Some p
  pub adds : AddsOwn s l start p.past

given : (s : Channel) (l : Lun) (kind : Kind) (byte : ℕ) (rest : List Move) (bytes : List ℕ) (start past : List Item) → Walked s l rest bytes start (cycle l.ce kind byte ∷ past) → Walked s l (Give kind byte ∷ rest) bytes start past
given s l kind byte rest bytes start past w = record { p = w.p; is_p = w.is_p; adds = w.adds }

taken : (s : Channel) (l : Lun) (byte : ℕ) (rest : List Move) (bytes : List ℕ) (start past : List Item) → Walked s l rest bytes start (cycle l.ce Dout byte ∷ past) → Walked s l (Take ∷ rest) (byte ∷ bytes) start past
taken s l byte rest bytes start past w =
    record { p = record { past = w.p.past; bytes = byte ∷ w.p.bytes }; is_p = rw w.is_p refl; adds = w.adds }

-- own moves are played whatever bytes they get, and add what is own
pub walked : (s : Channel) (l : Lun) (start : List Item) (moved : List Move) (bytes : List ℕ) (new : List Cycle) → length bytes ≡ outputs moved → AllOwn s l new start → MovesAreOwn s l moved (cycles_on new start) → Walked s l moved bytes start (cycles_on new start)
walked s l start [] [] new many own moves_own =
    record { p = record { past = cycles_on new start; bytes = [] }; is_p = refl; adds = record { new = new; is_new = refl; own = own } }
walked s l start [] (byte ∷ bytes) new many own moves_own = absurd (omega (arith, many))
walked s l start (Give kind byte ∷ rest) bytes new many own moves_own =
    given s l kind byte rest bytes start (cycles_on new start) (walked s l start rest bytes (record { ce = l.ce; kind = kind; byte = byte } ∷ new) many (moves_own.0, own) moves_own.1)
walked s l start (Take ∷ rest) [] new many own moves_own = absurd (omega (arith, many))
walked s l start (Take ∷ rest) (byte ∷ bytes) new many own moves_own =
    let here = moves_own byte in
    let fewer : length bytes ≡ outputs rest = omega (arith, many) in
    taken s l byte rest bytes start (cycles_on new start) (walked s l start rest bytes (record { ce = l.ce; kind = Dout; byte = byte } ∷ new) fewer (here.0, own) here.1)

-- own moves are played on a model
pub shown : (s : Channel) → IsChannel s → (l : Lun) (moved : List Move) (past : List Item) → MovesAreOwn s l moved past → (p : Played) × (played s l.ce moved past ≡ Some p)
shown s is l [] past own = (record { past = past; bytes = [] }, refl)
shown s is l (Give kind byte ∷ rest) past own = shown s is l rest (cycle l.ce kind byte ∷ past) own.1
shown s is l (Take ∷ rest) past own =
    let first = own 0 in
    let driven = (and_parts (not (is_shared s.geometry && false)) _ (and_parts (l.ce == l.ce) _ first.0.own).1).1 in
    let b = outputs_show.has_byte s is past l 0 first.0.permitted driven in
    let q = shown s is l rest (cycle l.ce Dout b.0 ∷ past) (own b.0).1 in
    (record { past = q.0.past; bytes = b.0 ∷ q.0.bytes }, rw b.1 (rw q.1 refl))

-- what a model plays is played with its bytes, which are as many as the moves take
pub played_is : (s : Channel) (ce : ℕ) (moved : List Move) (past : List Item) (p : Played) → played s ce moved past ≡ Some p → (answered ce moved p.bytes past ≡ Some p) × (length p.bytes ≡ outputs moved)
played_is s ce [] past p e =
    let both : Some (let q : Played = record { past = past; bytes = [] } in q) ≡ Some p = e in
    let same : record { past = past; bytes = [] } ≡ p = cc in
    subst (λ (q : Played). (answered ce [] q.bytes past ≡ Some q) × (length q.bytes ≡ outputs [])) same (refl, refl)
played_is s ce (Give kind byte ∷ rest) past p e = played_is s ce rest (cycle ce kind byte ∷ past) p e
played_is s ce (Take ∷ rest) past p e = at (bus_byte s past ce) e (λ byte q f. played_is s ce rest (cycle ce Dout byte ∷ past) q f)
  where
    behind : (byte : ℕ) (o : Option Played) → played s ce rest (cycle ce Dout byte ∷ past) ≡ o → and_then o (with_byte byte) ≡ Some p → ((q : Played) → played s ce rest (cycle ce Dout byte ∷ past) ≡ Some q → (answered ce rest q.bytes (cycle ce Dout byte ∷ past) ≡ Some q) × (length q.bytes ≡ outputs rest)) → (answered ce (Take ∷ rest) p.bytes past ≡ Some p) × (length p.bytes ≡ outputs (Take ∷ rest))
    behind byte None f h again = cc
    behind byte (Some q) f h again =
        let both : Some (let x : Played = record { past = q.past; bytes = byte ∷ q.bytes } in x) ≡ Some p = h in
        let same : record { past = q.past; bytes = byte ∷ q.bytes } ≡ p = cc in
        let rest_is = again q f in
        let as_many : length q.bytes ≡ outputs rest = rest_is.1 in
        let more : length (byte ∷ q.bytes) ≡ outputs (Take ∷ rest) = omega (arith, as_many) in
        subst (λ (x : Played). (answered ce (Take ∷ rest) x.bytes past ≡ Some x) × (length x.bytes ≡ outputs (Take ∷ rest))) same
        (rw rest_is.0 refl, more)

    at : (o : Option ℕ) → and_then o (λ byte. and_then (played s ce rest (cycle ce Dout byte ∷ past)) (with_byte byte)) ≡ Some p → ((byte : ℕ) (q : Played) → played s ce rest (cycle ce Dout byte ∷ past) ≡ Some q → (answered ce rest q.bytes (cycle ce Dout byte ∷ past) ≡ Some q) × (length q.bytes ≡ outputs rest)) → (answered ce (Take ∷ rest) p.bytes past ≡ Some p) × (length p.bytes ≡ outputs (Take ∷ rest))
    at None h again = cc
    at (Some byte) h again = behind byte (played s ce rest (cycle ce Dout byte ∷ past)) refl h (again byte)

-- moves that are played had as many bytes as they take
pub answered_count : (ce : ℕ) (moved : List Move) (bytes : List ℕ) (past : List Item) (p : Played) → answered ce moved bytes past ≡ Some p → length bytes ≡ outputs moved
answered_count ce [] [] past p e = refl
answered_count ce [] (byte ∷ bytes) past p e = cc
answered_count ce (Give kind byte ∷ rest) bytes past p e = answered_count ce rest bytes (cycle ce kind byte ∷ past) p e
answered_count ce (Take ∷ rest) [] past p e = cc
answered_count ce (Take ∷ rest) (byte ∷ bytes) past p e = at (answered ce rest bytes (cycle ce Dout byte ∷ past)) refl e (λ q f. answered_count ce rest bytes (cycle ce Dout byte ∷ past) q f)
  where
    at : (o : Option Played) → answered ce rest bytes (cycle ce Dout byte ∷ past) ≡ o → and_then o (with_byte byte) ≡ Some p → ((q : Played) → answered ce rest bytes (cycle ce Dout byte ∷ past) ≡ Some q → length bytes ≡ outputs rest) → length (byte ∷ bytes) ≡ outputs (Take ∷ rest)
    at None f h again = cc
    at (Some q) f h again = let as_many : length bytes ≡ outputs rest = again q f in omega (arith, as_many)

-- what each own cycle keeps, a list of them keeps; and they keep the trace legal
pub along : (s : Channel) (l : Lun) (P : List Item → Type 0) → ((past : List Item) (c : Cycle) → is_legal s.geometry s.targets past ≡ true → IsOwn s l past (Cyc c) → P past → P (Cyc c ∷ past)) → (new : List Cycle) (past : List Item) → AllOwn s l new past → is_legal s.geometry s.targets past ≡ true → P past → (is_legal s.geometry s.targets (cycles_on new past) ≡ true) × P (cycles_on new past)
along s l P step [] past own legal h = (legal, h)
along s l P step (c ∷ new) past own legal h =
    let before = along s l P step new past own.1 legal h in
    (facts.legal s.geometry s.targets (cycles_on new past) (Cyc c) before.0 own.0.permitted, step (cycles_on new past) c before.0 own.0 before.1)

-- moves that give some bytes and then take one leave nothing open
given_then_taken : (ce : ℕ) (kind : Kind) (bytes answers : List ℕ) (past : List Item) (p : Played) → answered ce (gives kind bytes ++ (Take ∷ [])) answers past ≡ Some p → is_open_on p.past ce ≡ false
given_then_taken ce kind [] [] past p h = cc
given_then_taken ce kind [] (byte ∷ []) past p h =
    let e : (cycle ce Dout byte ∷ past) ≡ p.past = cc in subst (λ (q : List Item). is_open_on q ce ≡ false) e (outputs_show.closes past ce byte)
given_then_taken ce kind [] (byte ∷ (b ∷ answers)) past p h = cc
given_then_taken ce kind (b ∷ bytes) answers past p h = given_then_taken ce kind bytes answers (cycle ce kind b ∷ past) p h

-- a poll leaves nothing open
pub poll_closes : (s : Channel) (j : Job) (ce : ℕ) (moved : List Move) (answers : List ℕ) (past : List Item) (p : Played) → poll s.geometry j ≡ Some moved → answered ce moved answers past ≡ Some p → is_open_on p.past ce ≡ false
poll_closes s j ce moved answers past p polls plays = at (ltb 1 s.geometry.luns) (row_bytes_of s.geometry j.lun.lun 0 0) polls
  where
    at : (b : Bool) (o : Option (List ℕ)) → cond b (and_then o (λ row. Some (Give Cmd 0x78 ∷ (gives Adr row ++ (Take ∷ []))))) (Some (Give Cmd 0x70 ∷ (Take ∷ []))) ≡ Some moved → is_open_on p.past ce ≡ false
    at true None e = cc
    at true (Some row) e =
        let is : (Give Cmd 0x78 ∷ (gives Adr row ++ (Take ∷ []))) ≡ moved = cc in
        given_then_taken ce Adr row answers (cycle ce Cmd 0x78 ∷ past) p (subst (λ (q : List Move). answered ce q answers past ≡ Some p) (sym is) plays)
    at false o e =
        let is : (Give Cmd 0x70 ∷ (Take ∷ [])) ≡ moved = cc in
        given_then_taken ce Cmd (0x70 ∷ []) answers past p (subst (λ (q : List Move). answered ce q answers past ≡ Some p) (sym is) plays)
