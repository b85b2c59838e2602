use Rattle.std.proofs.Common.{ap, arith, get_or, List, ℕ, ◌+◌, add-one, slice_index}
use Rattle.exact_simplex.proofs.ShiftSteps.{shifts_next}
use Rattle.exact_simplex.proofs.shifts.shifts_of.Goals as goal

pub loop-j-preserved : goal.loop-j-preserved
loop-j-preserved c =
    let j = c.loop-j.j in
    record {
      so_far = rw add-one (shifts_next c.args.units.now c.args.rows c.args.old.now c.args.new.now j c.loop-j.shifts.items c.push_shift.new.shifts.items c.push_shift-in-loop-j.new.shifts.items (j + 1) _ (get_or c.as_slice.result.now j 0) (get_or c.as_slice-in-loop-j.result.now j 0) (get_or c.as_slice-in-loop-j-2.result.now j 0) (get_or c.as_slice-in-loop-j-3.result.now j 0) c.loop-j.invariant.so_far c.in_ok-push_shift.ensures c.in_ok-push_shift-2.ensures (omega arith) (omega arith) (ap (λ (xs : List ℕ). slice_index xs j) c.as_slice.ensures.items) (ap (λ (xs : List ℕ). slice_index xs j) c.as_slice-in-loop-j.ensures.items) (ap (λ (xs : List ℕ). slice_index xs j) c.as_slice-in-loop-j-2.ensures.items) (ap (λ (xs : List ℕ). slice_index xs j) c.as_slice-in-loop-j-3.ensures.items));
    }
