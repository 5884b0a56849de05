use Rattle.std.proofs.Common.{◌≡◌, ℕ, ◌-◌, List, Option, sym, ap, ◌∙◌, drop, take, length}
use Rattle.onfi_cycle.specs.declared.item.Item.{Item}
use Rattle.onfi_cycle.specs.declared.page_address.PageAddress.{PageAddress}
use Rattle.onfi_cycle.specs.Content.{bytes_held, content}
use Rattle.onfi_cycle.specs.Sequence.{filled, tail}
use Rattle.nand_geometry.specs.Limits.{page_len}
use Rattle.oracle_onfi.specs.Copied.{page_begun_with, page_copied}
use Rattle.oracle_onfi.specs.Opening.{opening_of}
use Rattle.oracle_onfi.proofs.Copied.{bytes_closed, pending_is, queue_is}
use Rattle.oracle_onfi.proofs.Stepping.{one_item}
use Rattle.oracle_onfi.proofs.content.+page_state.Goals as goal
use Rattle.oracle_onfi.proofs.content.+page_state.Goals.{in-Some+in_ok-page_state-in-Some, in-None+in_ok-begun-in-None}

pub returns-in_ok-works-in-len1-up-clause-queued : goal.returns-in_ok-works-in-len1-up-clause-queued
returns-in_ok-works-in-len1-up-clause-queued t c =
    let rest : List Item = take (length c.args.past.now - 1) (drop 1 c.args.past.now) in
    let pages : PageAddress → List ℕ = content c.args.geometry.now (opening_of (page_len c.args.geometry.now) c.args.opening.now) rest c.args.lun in
    let copied = c.in_ok-copied-in-len1-up.ensures in
    let begun : c.match-branch-5.begun.items ≡ bytes_held c.args.geometry.now pages (page_copied c.in_ok-effect-in-len1-up.effect (page_begun_with c.args.geometry.now rest c.args.lun)) =
    elim c.match-branch-5.branch [
      | in-Some+in_ok-page_state-in-Some w ↦ ap (λ v. v.items) w.begun-is ∙ (w.in_ok-page_state-in-Some.ensures.bytes ∙ ap (λ (p : Option PageAddress). bytes_held c.args.geometry.now pages p) (sym w.in-Some.is ∙ copied))
      | in-None+in_ok-begun-in-None w ↦ ap (λ v. v.items) w.begun-is ∙ (w.in_ok-begun-in-None.ensures ∙ ap (λ (p : Option PageAddress). bytes_held c.args.geometry.now pages p) (sym w.in-None.is ∙ copied))
    ]
    in
    let program : c.in_ok-program-in-len1-up.program.items ≡ bytes_closed c.args.geometry.now pages c.in_ok-effect-in-len1-up.effect rest c.args.lun =
    c.in_ok-program-in-len1-up.ensures ∙ ap (λ (bytes : List ℕ). filled bytes (tail rest c.args.lun.ce)) (c.deref.ensures.value ∙ begun)
    in
    c.in_ok-works-in-len1-up.ensures.queued
    ∙ queue_is c.args.geometry.now _ c.args.past.now rest _ c.args.lun _ _ _ (one_item c.args.past.now _ c.in-len1-up.len_at_least) c.in_ok-effect-in-len1-up.ensures.value program
    c.in_ok-before-in-len1-up.ensures.queued

pub returns-in_ok-works-in-len1-up-clause-pending : goal.returns-in_ok-works-in-len1-up-clause-pending
returns-in_ok-works-in-len1-up-clause-pending t c =
    let rest : List Item = take (length c.args.past.now - 1) (drop 1 c.args.past.now) in
    let pages : PageAddress → List ℕ = content c.args.geometry.now (opening_of (page_len c.args.geometry.now) c.args.opening.now) rest c.args.lun in
    let copied = c.in_ok-copied-in-len1-up.ensures in
    let begun : c.match-branch-5.begun.items ≡ bytes_held c.args.geometry.now pages (page_copied c.in_ok-effect-in-len1-up.effect (page_begun_with c.args.geometry.now rest c.args.lun)) =
    elim c.match-branch-5.branch [
      | in-Some+in_ok-page_state-in-Some w ↦ ap (λ v. v.items) w.begun-is ∙ (w.in_ok-page_state-in-Some.ensures.bytes ∙ ap (λ (p : Option PageAddress). bytes_held c.args.geometry.now pages p) (sym w.in-Some.is ∙ copied))
      | in-None+in_ok-begun-in-None w ↦ ap (λ v. v.items) w.begun-is ∙ (w.in_ok-begun-in-None.ensures ∙ ap (λ (p : Option PageAddress). bytes_held c.args.geometry.now pages p) (sym w.in-None.is ∙ copied))
    ]
    in
    let program : c.in_ok-program-in-len1-up.program.items ≡ bytes_closed c.args.geometry.now pages c.in_ok-effect-in-len1-up.effect rest c.args.lun =
    c.in_ok-program-in-len1-up.ensures ∙ ap (λ (bytes : List ℕ). filled bytes (tail rest c.args.lun.ce)) (c.deref.ensures.value ∙ begun)
    in
    c.in_ok-works-in-len1-up.ensures.pending
    ∙ pending_is c.args.geometry.now _ c.args.past.now rest _ c.args.lun _ _ _ _ (one_item c.args.past.now _ c.in-len1-up.len_at_least) c.in_ok-effect-in-len1-up.ensures.value program
    c.in_ok-before-in-len1-up.ensures.queued c.in_ok-before-in-len1-up.ensures.pending
