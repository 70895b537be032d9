use Rattle.hallboot_tasks.proofs.suspended.+has_frames.Given as goal

abbrev pub decreases-has_frames : goal.decreases-has_frames
decreases-has_frames g l = l.frames
