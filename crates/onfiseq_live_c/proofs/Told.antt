-- What is told is of the job's target and its buffer, and breaks no rule.
use Rattle.std.proofs.Common.{◌≡◌, ℕ, ◌+◌, ◌≤◌, ◌==◌, Bool, true, false, cond, not, ltb, ◌&&◌, List, [], ◌∷◌, Option, Some, None, Result, Ok, Err, refl, sym, ap, ◌∙◌, subst, length, arith}
use Rattle.std.proofs.lemmas.Bool.Decides.{nat_tests}
use Rattle.nand_geometry.specs.declared.parts.Parts.{Parts}
use Rattle.nand_geometry.specs.Row.{row_bytes_of}
use Rattle.onfi_cycle.specs.declared.forbidden.Forbidden.{Forbidden}
use Rattle.onfi_cycle.specs.declared.item.Item.{Item}
use Rattle.onfi_cycle.specs.declared.lun.Lun.{Lun}
use Rattle.onfi_cycle.specs.State.{BusView, Follows}
use Rattle.micro_word.specs.declared.word.Word.{Word}
use Rattle.micro_word.specs.declared.word.Word.TheVariants as word
use Rattle.micro_program.specs.Moves.{and_then}
use Rattle.micro_program.specs.Program.{fits}
use Rattle.seq_core.specs.declared.registers.Registers.{Registers}
use Rattle.seq_core.specs.After.{is_held}
use Rattle.seq_core.specs.Progress.{five_bytes}
use Rattle.seq_live.specs.declared.burst.Burst.{Burst}
use Rattle.seq_live.specs.declared.burst.Burst.TheVariants.{Command, Address, Input, Output}
use Rattle.seq_live.specs.Burst.{bursts_at, taken_by, all_moves}
use Rattle.word_file.specs.declared.word.WordMissing.{WordMissing}
use Rattle.word_file.specs.Words.{word_in}
use Rattle.onfiseq_live_c.specs.declared.stop.Stop.{Stop}
use Rattle.onfiseq_live_c.specs.declared.stop.Stop.TheVariants as stop
use Rattle.onfiseq_live_c.specs.declared.live.OnfiseqLive.{OnfiseqLive}
use Rattle.onfiseq_live_c.specs.declared.job.OnfiseqJob.{OnfiseqJob}
use Rattle.onfiseq_live_c.specs.Job.{JobView, job_view, opens_loop}
use Rattle.onfiseq_live_c.specs.Live.{state_of, holder_of, are_whole}
use Rattle.onfiseq_live_c.specs.Bursts.{AllOn, judged_bursts}
use Rattle.onfiseq_live_c.specs.Due.{and_do, checked, found, unless_ended, due}
use Rattle.onfiseq_live_c.specs.Next.{Told, permitted, told_by, told, next_of}
use Rattle.onfiseq_live_c.specs.Permits.{ArePermitted}
use Rattle.onfiseq_live_c.proofs.Permits.{AreOf, permitted_bursts}

same_list : (ce len : ℕ) (listed bursts : List Burst) → Some listed ≡ Some bursts → AreOf ce len listed → AreOf ce len bursts
same_list ce len listed bursts e h = let same : listed ≡ bursts = cc in subst (AreOf ce len) same h

poll_is_own : (l : Lun) (len : ℕ) (several : Bool) (o : Option (List ℕ)) (bursts : List Burst)
    → cond several (and_then o (λ row. Some (Command l.ce 0x78 ∷ (Address l.ce (0 ∷ (0 ∷ row)) 2 3 ∷ (Output l.ce 1 ∷ []))))) (Some (Command l.ce 0x70 ∷ (Output l.ce 1 ∷ []))) ≡ Some bursts
    → AreOf l.ce len bursts
poll_is_own l len false o bursts e = same_list l.ce len (Command l.ce 0x70 ∷ (Output l.ce 1 ∷ [])) bursts e (refl, (refl, tt))
poll_is_own l len true None bursts e = cc
poll_is_own l len true (Some row) bursts e =
    same_list l.ce len (Command l.ce 0x78 ∷ (Address l.ce (0 ∷ (0 ∷ row)) 2 3 ∷ (Output l.ce 1 ∷ []))) bursts e (refl, (refl, (refl, tt)))

address_is_own : (l : Lun) (len from count : ℕ) (o : Option (List ℕ)) (bursts : List Burst) → and_then o (λ five. Some (Address l.ce five from count ∷ [])) ≡ Some bursts → AreOf l.ce len bursts
address_is_own l len from count None bursts e = cc
address_is_own l len from count (Some five) bursts e = same_list l.ce len (Address l.ce five from count ∷ []) bursts e (refl, tt)

pub bursts_are_own : (g : Parts) (l : Lun) (r : Registers) (len : ℕ) (w : Word) (bursts : List Burst) → fits len r.place w ≡ true → bursts_at g l r w ≡ Some bursts → AreOf l.ce len bursts
bursts_are_own g l r len (word.Command byte) bursts inside e = same_list l.ce len (Command l.ce byte ∷ []) bursts e (refl, tt)
bursts_are_own g l r len (word.Address from count) bursts inside e = address_is_own l len from count (five_bytes g l.lun r (from + count)) bursts e
bursts_are_own g l r len (word.Get count) bursts inside e = same_list l.ce len (Output l.ce count ∷ []) bursts e (refl, tt)
bursts_are_own g l r len (word.Put count) bursts inside e =
    let room : r.place + count ≤ len = grind (arith, nat_tests, inside) in
    same_list l.ce len (Input l.ce r.place count ∷ []) bursts e ((refl, room), tt)
bursts_are_own g l r len word.Wait bursts inside e = poll_is_own l len (ltb 1 g.luns) (row_bytes_of g l.lun 0 0) bursts e
bursts_are_own g l r len word.ReadStatus bursts inside e = poll_is_own l len (ltb 1 g.luns) (row_bytes_of g l.lun 0 0) bursts e
bursts_are_own g l r len w bursts inside e = same_list l.ce len [] bursts e tt

-- they are of its target
pub are_on : (ce len : ℕ) (bursts : List Burst) → AreOf ce len bursts → AllOn ce bursts
are_on ce len [] h = tt
are_on ce len (Command at byte ∷ bursts) h = (h.0, are_on ce len bursts h.1)
are_on ce len (Address at five from count ∷ bursts) h = (h.0, are_on ce len bursts h.1)
are_on ce len (Input at place count ∷ bursts) h = (h.0.0, are_on ce len bursts h.1)
are_on ce len (Output at count ∷ bursts) h = (h.0, are_on ce len bursts h.1)

same_on : (ce : ℕ) (listed bursts : List Burst) → Some listed ≡ Some bursts → AllOn ce listed → AllOn ce bursts
same_on ce listed bursts e h = let same : listed ≡ bursts = cc in subst (AllOn ce) same h

pub bursts_on : (g : Parts) (l : Lun) (r : Registers) (w : Word) (bursts : List Burst) → bursts_at g l r w ≡ Some bursts → AllOn l.ce bursts
bursts_on g l r (word.Command byte) bursts e = same_on l.ce (Command l.ce byte ∷ []) bursts e (refl, tt)
bursts_on g l r (word.Address from count) bursts e = are_on l.ce 0 bursts (address_is_own l 0 from count (five_bytes g l.lun r (from + count)) bursts e)
bursts_on g l r (word.Get count) bursts e = same_on l.ce (Output l.ce count ∷ []) bursts e (refl, tt)
bursts_on g l r (word.Put count) bursts e = same_on l.ce (Input l.ce r.place count ∷ []) bursts e (refl, tt)
bursts_on g l r word.Wait bursts e = are_on l.ce 0 bursts (poll_is_own l 0 (ltb 1 g.luns) (row_bytes_of g l.lun 0 0) bursts e)
bursts_on g l r word.ReadStatus bursts e = are_on l.ce 0 bursts (poll_is_own l 0 (ltb 1 g.luns) (row_bytes_of g l.lun 0 0) bursts e)
bursts_on g l r w bursts e = same_on l.ce [] bursts e tt

-- a word that is due stays inside the buffer
checked_fits : (j : JobView) (given w : Word) → checked j given ≡ Ok w → fits j.buffer j.registers.place w ≡ true
checked_fits j given w e = at (fits j.buffer j.registers.place given) refl e
  where
    at : (b : Bool) → fits j.buffer j.registers.place given ≡ b
        → cond (not b) (Err stop.BufferTooShort) (cond (opens_loop given && length j.loops == 4) (Err stop.TooDeep) (Ok given)) ≡ Ok w → fits j.buffer j.registers.place w ≡ true
    at false is h = cc
    at true is h = same (opens_loop given && length j.loops == 4) h
      where
        same : (deep : Bool) → cond deep (Err stop.TooDeep) (Ok given) ≡ Ok w → fits j.buffer j.registers.place w ≡ true
        same true k = cc
        same false k = let equal : given ≡ w = cc in subst (λ (x : Word). fits j.buffer j.registers.place x ≡ true) equal is

due_fits : (h : Option Lun) (j : JobView) (file : List ℕ) (w : Word) → due h j file ≡ Ok w → fits j.buffer j.registers.place w ≡ true
due_fits h j file w e = at j.code (is_held h j.lun) (word_in file j.at) e
  where
    at : (code : Option ℕ) (held : Bool) (r : Result Word WordMissing) → unless_ended code (cond held (Err stop.Held) (found j r)) ≡ Ok w → fits j.buffer j.registers.place w ≡ true
    at (Some code) held r k = cc
    at None true r k = cc
    at None false (Err missing) k = cc
    at None false (Ok given) k = checked_fits j given w k

abbrev told_so : List Burst → ℕ → Told
told_so bursts taken = record { bursts = bursts; taken = taken }

-- what is told of a word are its bursts, and they break no rule
record IsTold (s : BusView) (j : JobView) (w : Word) (t : Told) : Type 0 where
  bursts : bursts_at s.geometry j.lun j.registers w ≡ Some t.bursts
  rule : judged_bursts t.bursts s ≡ None

told_is : (s : BusView) (j : JobView) (w : Word) (t : Told) → told s j w ≡ Ok t → IsTold s j w t
told_is s j w t e = at (bursts_at s.geometry j.lun j.registers w) refl e
  where
    at : (o : Option (List Burst)) → bursts_at s.geometry j.lun j.registers w ≡ o → told_by s w o ≡ Ok t → IsTold s j w t
    at None is h = cc
    at (Some bursts) is h = by_rule (judged_bursts bursts s) refl h
      where
        by_rule : (rule : Option Forbidden) → judged_bursts bursts s ≡ rule → permitted bursts (taken_by w) rule ≡ Ok t → IsTold s j w t
        by_rule (Some rule) r k = cc
        by_rule None r k =
            let same : bursts ≡ t.bursts = first t k in
            record { bursts = is ∙ ap Some same; rule = subst (λ (bs : List Burst). judged_bursts bs s ≡ None) same r }
          where
            first : (u : Told) → permitted bursts (taken_by w) None ≡ Ok u → bursts ≡ u.bursts
            first u m = let whole : told_so bursts (taken_by w) ≡ u = cc in ap (λ (x : Told). x.bursts) whole

told_permits : (s : BusView) (j : JobView) (w : Word) (t : Told) → fits j.buffer j.registers.place w ≡ true → told s j w ≡ Ok t
    → (g : Parts) (n : ℕ) (past : List Item) → Follows g n s past → (buffer : List ℕ) → length buffer ≡ j.buffer → ArePermitted g n j.lun.ce (all_moves buffer t.bursts) past
told_permits s j w t inside e g n past f buffer size =
    let is = told_is s j w t e in
    permitted_bursts g n j.lun.ce buffer t.bursts s past
    (subst (λ (len : ℕ). AreOf j.lun.ce len t.bursts) (sym size) (bursts_are_own s.geometry j.lun j.registers j.buffer w t.bursts inside is.bursts)) is.rule f

pub next_permits : (v : OnfiseqLive) (j : OnfiseqJob) (file : List ℕ) (t : Told) → next_of v j file ≡ Ok t
    → (g : Parts) (n : ℕ) (past : List Item) → Follows g n (state_of v) past → (buffer : List ℕ) → length buffer ≡ j.buffer → ArePermitted g n j.ce (all_moves buffer t.bursts) past
next_permits v j file t e g n past f buffer size = at (are_whole v j) (due (holder_of v) (job_view j) file) refl e
  where
    at : (whole : Bool) (r : Result Word Stop) → due (holder_of v) (job_view j) file ≡ r
        → cond (not whole) (Err stop.Damaged) (and_do r (told (state_of v) (job_view j))) ≡ Ok t → ArePermitted g n j.ce (all_moves buffer t.bursts) past
    at false r is h = cc
    at true (Err why) is h = cc
    at true (Ok w) is h = told_permits (state_of v) (job_view j) w t (due_fits (holder_of v) (job_view j) file w is) h g n past f buffer size
