-- What a verdict does: a job begun, something done at once, arming and disarming, and what becomes of the job's load (RULES, Verdicts; Jobs).
use Rattle.std.specs.Prelude.{ℕ, true, false, cond, ◌&&◌, List, eqb}
use Rattle.commands.specs.Table.{is_program, write_enable, write_disable, suspend, resume, wake, deep_power_down, reset_enable, reset}
use Rattle.chip.specs.declared.Core.{Core}
use Rattle.chip.specs.declared.Frame.{Frame}
use Rattle.chip.specs.declared.Job.{Job}
use Rattle.chip.specs.Fields.{with_wen, with_suspended, with_waiting, with_deep, with_armed, with_job}
use Rattle.chip.specs.Job.{no_job}
use Rattle.chip.specs.Chip.{blank_load}
use Rattle.verdict.specs.Verdict.{job_asked}

-- another job in the place of the one that was there, neither suspended nor waiting to be
abbrev pub replaced : Job → Core → Core
replaced j k = with_suspended false (with_waiting false (with_job j k))

-- verdict 2: the frame's job begins, on a part of S sectors; a suspended one is dropped for it
abbrev pub begins : ℕ → Core → Frame → Core
begins S k f = replaced (job_asked S f) k

-- a reset drops the job, and clears SUS and the waiting mark with it, and WEN
abbrev pub resets : Core → Core
resets k = with_wen false (replaced no_job k)

-- verdict 1: write enable and disable, suspend and resume, wake and deep power-down, reset; reset enable does nothing but arm.
-- A suspend only marks the job: the next tick does its step, and then it is suspended (`moved_on`)
unfoldable pub instantly : Core → ℕ → Core
instantly k opcode =
    cond (eqb opcode write_enable) (with_wen true k)
    (cond (eqb opcode write_disable) (with_wen false k)
    (cond (eqb opcode suspend) (with_waiting true k)
    (cond (eqb opcode resume) (with_suspended false k)
    (cond (eqb opcode wake) (with_deep false k)
    (cond (eqb opcode deep_power_down) (with_deep true k)
    (cond (eqb opcode reset) (resets k) k))))))

-- 2 begins, 1 acts, and every other verdict leaves all as it was
unfoldable pub acted : ℕ → Core → Frame → ℕ → Core
acted S k f v = cond (eqb v 2) (begins S k f) (cond (eqb v 1) (instantly k f.opcode) k)

-- a 66h that is done arms, any other frame with a whole byte disarms, and one without leaves arming alone
unfoldable pub settled : ℕ → Core → Frame → ℕ → Core
settled S k f v = cond (eqb f.count 0) k (with_armed (eqb f.opcode reset_enable && eqb v 1) (acted S k f v))

-- the job's load: a program begun takes the frame's; any other job begun, and a reset, leave a blank one
unfoldable pub held_after : Frame → ℕ → List ℕ → List ℕ → List ℕ
held_after f v load held =
    cond (eqb v 2) (cond (is_program f.opcode) load blank_load)
    (cond (eqb v 1 && eqb f.opcode reset) blank_load held)
