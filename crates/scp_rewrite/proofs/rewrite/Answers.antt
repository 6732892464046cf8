-- What refuses is answered and nothing is stored; else the entry is read again and the revolution patched.
use Rattle.scp_rewrite.proofs.Outcome.{leaves_all, patchable, leaves_rewritten}
use Rattle.scp_rewrite.proofs.rewrite.Goals as goal

pub returns-in_err-rewrite_fault-clause-image_after : goal.returns-in_err-rewrite_fault-clause-image_after
returns-in_err-rewrite_fault-clause-image_after c =
    leaves_all _ _ _ _ _ _ c.in_err-rewrite_fault.field-0.0 c.in_err-rewrite_fault.ensures

pub patch_summed-requires : goal.patch_summed-requires
patch_summed-requires c =
    patchable _ _ _ _ 0 _ c.in_ok-rewrite_fault.ensures c.track_entry-e.ensures

pub returns-clause-image_after : goal.returns-clause-image_after
returns-clause-image_after c =
    leaves_rewritten _ _ _ _ _ _ c.in_ok-rewrite_fault.ensures c.track_entry-e.ensures c.patch_summed.ensures
