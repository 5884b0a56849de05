-- The bursts of a word are its moves.
use Rattle.std.proofs.Common.{◌≡◌, ℕ, zero, suc, ◌+◌, ◌≤◌, Bool, true, false, ◌&&◌, cond, ltb, leb, List, [], ◌∷◌, ◌++◌, Option, Some, None, refl, sym, ap, ◌∙◌, subst, arith, length, take, replicate}
use Rattle.std.proofs.lemmas.List.{append-nil}
use Rattle.std.proofs.lemmas.Bool.Decides.{nat_tests}
use Rattle.nand_geometry.specs.declared.parts.Parts.{Parts}
use Rattle.nand_geometry.specs.Limits.{indices, planes}
use Rattle.nand_geometry.specs.Row.{row_bytes_of, row_cycles, row_number, indexed}
use Rattle.onfi_cycle.specs.declared.lun.Lun.{Lun}
use Rattle.onfi_cycle.specs.declared.item.Kind.{Kind}
use Rattle.onfi_cycle.specs.declared.item.Kind.TheVariants.{Cmd, Adr, Din}
use Rattle.micro_word.specs.declared.word.Word.{Word}
use Rattle.micro_word.specs.declared.word.Word.TheVariants as word
use Rattle.micro_program.specs.Program.{fits}
use Rattle.micro_program.specs.Moves.{Move, Give, Take, and_then, gives, part, outputs}
use Rattle.seq_core.specs.declared.registers.Registers.{Registers}
use Rattle.seq_core.specs.Progress.{five_bytes, moves_at, poll_at}
use Rattle.seq_core.specs.Playing.{EndsWithFive}
use Rattle.seq_live.specs.declared.burst.Burst.{Burst}
use Rattle.seq_live.specs.declared.burst.Burst.TheVariants.{Command, Address, Input, Output}
use Rattle.onfi_cycle.specs.State.{BusView}
use Rattle.seq_live.specs.Burst.{all_moves, AllFit, poll_bursts, bursts_at, taken_by}
use Rattle.seq_live.specs.Calls.{CanMove, HasMoved, CanMoveBy, HasMovedBy}

some_same : {X : Type 0} (x y : X) → Some x ≡ Some y → x ≡ y
some_same x y h = cc

-- what the bursts of a word are
pub record AreBursts (buffer : List ℕ) (place : ℕ) (word : Word) (moved : List Move) (bursts : List Burst) : Type 0 where
  pub moves : moved ≡ all_moves buffer bursts
  pub fit : AllFit (length buffer) bursts
  pub count : outputs (all_moves buffer bursts) ≡ taken_by word

-- a row has three bytes
three_of_row : (g : Parts) (l index plane : ℕ) (row : List ℕ) → row_bytes_of g l index plane ≡ Some row → take 3 row ≡ row
three_of_row g l index plane row e = at (ltb l g.luns && ltb index (indices g) && ltb plane (planes g)) e
  where
    at : (b : Bool) → cond b (Some (row_cycles (row_number g (indexed g l index plane)))) None ≡ Some row → take 3 row ≡ row
    at true h = subst (λ (xs : List ℕ). take 3 xs ≡ xs) (some_same (row_cycles (row_number g (indexed g l index plane))) row h) refl
    at false h = cc

no_outputs : (kind : Kind) (bytes : List ℕ) (rest : List Move) → outputs (gives kind bytes ++ rest) ≡ outputs rest
no_outputs kind [] rest = refl
no_outputs kind (byte ∷ bytes) rest = no_outputs kind bytes rest

so_many_outputs : (len : ℕ) → outputs (replicate len Take ++ []) ≡ len
so_many_outputs zero = refl
so_many_outputs (suc len) = let rest = so_many_outputs len in omega (arith, rest)

same_bursts : (buffer : List ℕ) (place : ℕ) (word : Word) (moved given : List Move) (bursts listed : List Burst) → Some given ≡ Some moved → Some listed ≡ Some bursts → AreBursts buffer place word given listed → AreBursts buffer place word moved bursts
same_bursts buffer place word moved given bursts listed m b h =
    subst (λ (bs : List Burst). AreBursts buffer place word moved bs) (some_same listed bursts b)
    (subst (λ (ms : List Move). AreBursts buffer place word ms listed) (some_same given moved m) h)

-- a poll
poll_is : (g : Parts) (l : Lun) (buffer : List ℕ) (place : ℕ) (word : Word) (moved : List Move) (bursts : List Burst) → taken_by word ≡ 1 → poll_at g l.lun ≡ Some moved → poll_bursts g l ≡ Some bursts → AreBursts buffer place word moved bursts
poll_is g l buffer place word moved bursts one m b = at (ltb 1 g.luns) (row_bytes_of g l.lun 0 0) refl m b
  where
    at : (several : Bool) (o : Option (List ℕ)) → row_bytes_of g l.lun 0 0 ≡ o → cond several (and_then o (λ row. Some (Give Cmd 0x78 ∷ (gives Adr row ++ (Take ∷ []))))) (Some (Give Cmd 0x70 ∷ (Take ∷ []))) ≡ Some moved → cond several (and_then o (λ row. Some (Command l.ce 0x78 ∷ (Address l.ce (0 ∷ (0 ∷ row)) 2 3 ∷ (Output l.ce 1 ∷ []))))) (Some (Command l.ce 0x70 ∷ (Output l.ce 1 ∷ []))) ≡ Some bursts → AreBursts buffer place word moved bursts
    at false o is m b =
        same_bursts buffer place word moved (Give Cmd 0x70 ∷ (Take ∷ [])) bursts (Command l.ce 0x70 ∷ (Output l.ce 1 ∷ [])) m b
        (record { moves = refl; fit = (tt, (tt, tt)); count = sym one })
    at true None is m b = cc
    at true (Some row) is m b =
        let three : part 2 3 (0 ∷ (0 ∷ row)) ≡ row = three_of_row g l.lun 0 0 row is in
        same_bursts buffer place word moved (Give Cmd 0x78 ∷ (gives Adr row ++ (Take ∷ []))) bursts (Command l.ce 0x78 ∷ (Address l.ce (0 ∷ (0 ∷ row)) 2 3 ∷ (Output l.ce 1 ∷ []))) m b
        (record {
          moves = ap (λ (xs : List ℕ). Give Cmd 0x78 ∷ (gives Adr xs ++ (Take ∷ []))) (sym three);
          fit = (tt, (omega arith, (tt, tt)));
          count = no_outputs Adr (part 2 3 (0 ∷ (0 ∷ row))) (Take ∷ []) ∙ sym one;
        })

-- an address
address_is : (g : Parts) (l : Lun) (buffer : List ℕ) (r : Registers) (from count : ℕ) (moved : List Move) (bursts : List Burst) → from + count ≤ 5 → moves_at g l.lun buffer r (word.Address from count) ≡ Some moved → bursts_at g l r (word.Address from count) ≡ Some bursts → AreBursts buffer r.place (word.Address from count) moved bursts
address_is g l buffer r from count moved bursts fits m b = at (five_bytes g l.lun r (from + count)) m b
  where
    at : (o : Option (List ℕ)) → and_then o (λ five. Some (gives Adr (part from count five))) ≡ Some moved → and_then o (λ five. Some (Address l.ce five from count ∷ [])) ≡ Some bursts → AreBursts buffer r.place (word.Address from count) moved bursts
    at None m b = cc
    at (Some five) m b =
        same_bursts buffer r.place (word.Address from count) moved (gives Adr (part from count five)) bursts (Address l.ce five from count ∷ []) m b
        (record { moves = sym (append-nil (gives Adr (part from count five))); fit = (fits, tt); count = no_outputs Adr (part from count five) [] })

-- inputs
put_is : (g : Parts) (l : Lun) (buffer : List ℕ) (r : Registers) (len : ℕ) (moved : List Move) (bursts : List Burst) → leb (r.place + len) (length buffer) ≡ true → moves_at g l.lun buffer r (word.Put len) ≡ Some moved → bursts_at g l r (word.Put len) ≡ Some bursts → AreBursts buffer r.place (word.Put len) moved bursts
put_is g l buffer r len moved bursts inside m b =
    same_bursts buffer r.place (word.Put len) moved (gives Din (part r.place len buffer)) bursts (Input l.ce r.place len ∷ []) (sym (rw inside refl) ∙ m) b
    (record { moves = sym (append-nil (gives Din (part r.place len buffer))); fit = (grind (arith, nat_tests, inside), tt); count = no_outputs Din (part r.place len buffer) [] })

pub bursts_are_moves : (g : Parts) (l : Lun) (buffer : List ℕ) (r : Registers) (w : Word) (moved : List Move) (bursts : List Burst) → EndsWithFive w → fits (length buffer) r.place w ≡ true → moves_at g l.lun buffer r w ≡ Some moved → bursts_at g l r w ≡ Some bursts → AreBursts buffer r.place w moved bursts
bursts_are_moves g l buffer r (word.Command byte) moved bursts range inside m b =
    same_bursts buffer r.place (word.Command byte) moved (Give Cmd byte ∷ []) bursts (Command l.ce byte ∷ []) m b (record { moves = refl; fit = (tt, tt); count = refl })
bursts_are_moves g l buffer r (word.Address from count) moved bursts range inside m b = address_is g l buffer r from count moved bursts range m b
bursts_are_moves g l buffer r (word.Get len) moved bursts range inside m b =
    same_bursts buffer r.place (word.Get len) moved (replicate len Take) bursts (Output l.ce len ∷ []) m b
    (record { moves = sym (append-nil (replicate len Take)); fit = (tt, tt); count = so_many_outputs len })
bursts_are_moves g l buffer r (word.Put len) moved bursts range inside m b = put_is g l buffer r len moved bursts inside m b
bursts_are_moves g l buffer r word.Wait moved bursts range inside m b = poll_is g l buffer r.place word.Wait moved bursts refl m b
bursts_are_moves g l buffer r word.ReadStatus moved bursts range inside m b = poll_is g l buffer r.place word.ReadStatus moved bursts refl m b
bursts_are_moves g l buffer r w moved bursts range inside m b =
    same_bursts buffer r.place w moved [] bursts [] m b (record { moves = refl; fit = tt; count = refl })

-- where its moves are there, so are its bursts
poll_there : (g : Parts) (l : Lun) (moved : List Move) → poll_at g l.lun ≡ Some moved → poll_bursts g l ≡ None → ⊥
poll_there g l moved m b = at (ltb 1 g.luns) (row_bytes_of g l.lun 0 0) m b
  where
    at : (several : Bool) (o : Option (List ℕ)) → cond several (and_then o (λ row. Some (Give Cmd 0x78 ∷ (gives Adr row ++ (Take ∷ []))))) (Some (Give Cmd 0x70 ∷ (Take ∷ []))) ≡ Some moved → cond several (and_then o (λ row. Some (Command l.ce 0x78 ∷ (Address l.ce (0 ∷ (0 ∷ row)) 2 3 ∷ (Output l.ce 1 ∷ []))))) (Some (Command l.ce 0x70 ∷ (Output l.ce 1 ∷ []))) ≡ None → ⊥
    at false o m b = cc
    at true None m b = cc
    at true (Some row) m b = cc

pub bursts_there : (g : Parts) (l : Lun) (buffer : List ℕ) (r : Registers) (w : Word) (moved : List Move) → moves_at g l.lun buffer r w ≡ Some moved → bursts_at g l r w ≡ None → ⊥
bursts_there g l buffer r (word.Command byte) moved m b = cc
bursts_there g l buffer r (word.Address from count) moved m b = at (five_bytes g l.lun r (from + count)) m b
  where
    at : (o : Option (List ℕ)) → and_then o (λ five. Some (gives Adr (part from count five))) ≡ Some moved → and_then o (λ five. Some (Address l.ce five from count ∷ [])) ≡ None → ⊥
    at None m b = cc
    at (Some five) m b = cc
bursts_there g l buffer r (word.Get len) moved m b = cc
bursts_there g l buffer r (word.Put len) moved m b = cc
bursts_there g l buffer r word.Wait moved m b = poll_there g l moved m b
bursts_there g l buffer r word.ReadStatus moved m b = poll_there g l moved m b
bursts_there g l buffer r w moved m b = cc

-- a word's bursts were done on a state
pub can_by : (g : Parts) (s : BusView) (l m : Lun) (buffer xs : List ℕ) (r q : Registers) (w : Word) (bursts listed : List Burst) → CanMoveBy g s l buffer r w → EndsWithFive w → m ≡ l → xs ≡ buffer → q ≡ r → bursts_at g m q w ≡ Some bursts → listed ≡ bursts → AllFit (length xs) listed × CanMove s m (all_moves xs listed)
can_by g s l m buffer xs r q w bursts listed can range lun same registers b is =
    let a = bursts_are_moves g l buffer r w can.moved bursts range can.inside can.is_moved (ap (λ (k : Lun). bursts_at g k r w) (sym lun) ∙ (ap (λ (p : Registers). bursts_at g m p w) (sym registers) ∙ b)) in
    let here : AllFit (length buffer) bursts × CanMove s l (all_moves buffer bursts) = (a.fit, subst (CanMove s l) a.moves can.can) in
    subst (λ (bs : List Burst). AllFit (length xs) bs × CanMove s m (all_moves xs bs)) (sym is)
    (subst (λ (k : Lun). AllFit (length xs) bursts × CanMove s k (all_moves xs bursts)) (sym lun)
    (subst (λ (ys : List ℕ). AllFit (length ys) bursts × CanMove s l (all_moves ys bursts)) (sym same) here))

pub moved_by : (g : Parts) (s t : BusView) (l m : Lun) (buffer xs : List ℕ) (r q : Registers) (w : Word) (bursts listed : List Burst) → CanMoveBy g s l buffer r w → EndsWithFive w → m ≡ l → xs ≡ buffer → q ≡ r → bursts_at g m q w ≡ Some bursts → listed ≡ bursts → ((bytes : List ℕ) → length bytes ≡ outputs (all_moves xs listed) → HasMoved s t m.ce (all_moves xs listed) bytes) → (bytes : List ℕ) → length bytes ≡ taken_by w → HasMovedBy g s t l buffer r w bytes
moved_by g s t l m buffer xs r q w bursts listed can range lun same registers b is h bytes size =
    let a = bursts_are_moves g l buffer r w can.moved bursts range can.inside can.is_moved (ap (λ (k : Lun). bursts_at g k r w) (sym lun) ∙ (ap (λ (p : Registers). bursts_at g m p w) (sym registers) ∙ b)) in
    let moves : all_moves xs listed ≡ can.moved = ap (all_moves xs) is ∙ (ap (λ (ys : List ℕ). all_moves ys bursts) same ∙ sym a.moves) in
    let count : length bytes ≡ outputs (all_moves xs listed) = size ∙ (sym a.count ∙ (ap outputs (sym a.moves) ∙ ap outputs (sym moves))) in
    record {
      moved = can.moved;
      is_moved = can.is_moved;
      moves = subst (λ (ms : List Move). HasMoved s t l.ce ms bytes) moves (subst (λ (k : Lun). HasMoved s t k.ce (all_moves xs listed) bytes) lun (h bytes count));
    }

pub bursts_there_by : (g : Parts) (s : BusView) (l m : Lun) (buffer : List ℕ) (r q : Registers) (w : Word) → CanMoveBy g s l buffer r w → m ≡ l → q ≡ r → bursts_at g m q w ≡ None → ⊥
bursts_there_by g s l m buffer r q w can lun registers b =
    bursts_there g l buffer r w can.moved can.is_moved (ap (λ (k : Lun). bursts_at g k r w) (sym lun) ∙ (ap (λ (p : Registers). bursts_at g m p w) (sym registers) ∙ b))
