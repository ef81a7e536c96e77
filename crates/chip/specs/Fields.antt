-- The state's fields: each is replaced here, and everything else is said with these (RULES, Legal states).
use Rattle.std.specs.Prelude.{ℕ, Bool}
use Rattle.chip.specs.declared.Core.{Core}
use Rattle.chip.specs.declared.Frame.{Frame}
use Rattle.chip.specs.declared.Job.{Job}

-- ---- the core

abbrev pub with_level : ℕ → Core → Core
with_level level k =
    record { level = level; tb = k.tb; srwp = k.srwp; wen = k.wen; suspended = k.suspended; waiting = k.waiting; wp = k.wp; deep = k.deep; armed = k.armed; job = k.job }

abbrev pub with_tb : Bool → Core → Core
with_tb tb k =
    record { level = k.level; tb = tb; srwp = k.srwp; wen = k.wen; suspended = k.suspended; waiting = k.waiting; wp = k.wp; deep = k.deep; armed = k.armed; job = k.job }

abbrev pub with_srwp : Bool → Core → Core
with_srwp srwp k =
    record { level = k.level; tb = k.tb; srwp = srwp; wen = k.wen; suspended = k.suspended; waiting = k.waiting; wp = k.wp; deep = k.deep; armed = k.armed; job = k.job }

abbrev pub with_wen : Bool → Core → Core
with_wen wen k =
    record { level = k.level; tb = k.tb; srwp = k.srwp; wen = wen; suspended = k.suspended; waiting = k.waiting; wp = k.wp; deep = k.deep; armed = k.armed; job = k.job }

abbrev pub with_suspended : Bool → Core → Core
with_suspended suspended k =
    record { level = k.level; tb = k.tb; srwp = k.srwp; wen = k.wen; suspended = suspended; waiting = k.waiting; wp = k.wp; deep = k.deep; armed = k.armed; job = k.job }

abbrev pub with_waiting : Bool → Core → Core
with_waiting waiting k =
    record { level = k.level; tb = k.tb; srwp = k.srwp; wen = k.wen; suspended = k.suspended; waiting = waiting; wp = k.wp; deep = k.deep; armed = k.armed; job = k.job }

abbrev pub with_wp : Bool → Core → Core
with_wp wp k =
    record { level = k.level; tb = k.tb; srwp = k.srwp; wen = k.wen; suspended = k.suspended; waiting = k.waiting; wp = wp; deep = k.deep; armed = k.armed; job = k.job }

abbrev pub with_deep : Bool → Core → Core
with_deep deep k =
    record { level = k.level; tb = k.tb; srwp = k.srwp; wen = k.wen; suspended = k.suspended; waiting = k.waiting; wp = k.wp; deep = deep; armed = k.armed; job = k.job }

abbrev pub with_armed : Bool → Core → Core
with_armed armed k =
    record { level = k.level; tb = k.tb; srwp = k.srwp; wen = k.wen; suspended = k.suspended; waiting = k.waiting; wp = k.wp; deep = k.deep; armed = armed; job = k.job }

abbrev pub with_job : Job → Core → Core
with_job job k =
    record { level = k.level; tb = k.tb; srwp = k.srwp; wen = k.wen; suspended = k.suspended; waiting = k.waiting; wp = k.wp; deep = k.deep; armed = k.armed; job = job }

-- ---- the frame

abbrev pub with_selected : Bool → Frame → Frame
with_selected selected f =
    record { selected = selected; opcode = f.opcode; address = f.address; place = f.place; slot = f.slot; count = f.count; judgement = f.judgement }

abbrev pub with_opcode : ℕ → Frame → Frame
with_opcode opcode f =
    record { selected = f.selected; opcode = opcode; address = f.address; place = f.place; slot = f.slot; count = f.count; judgement = f.judgement }

abbrev pub with_address : ℕ → Frame → Frame
with_address address f =
    record { selected = f.selected; opcode = f.opcode; address = address; place = f.place; slot = f.slot; count = f.count; judgement = f.judgement }

abbrev pub with_place : ℕ → Frame → Frame
with_place place f =
    record { selected = f.selected; opcode = f.opcode; address = f.address; place = place; slot = f.slot; count = f.count; judgement = f.judgement }

abbrev pub with_slot : ℕ → Frame → Frame
with_slot slot f =
    record { selected = f.selected; opcode = f.opcode; address = f.address; place = f.place; slot = slot; count = f.count; judgement = f.judgement }

abbrev pub with_count : ℕ → Frame → Frame
with_count count f =
    record { selected = f.selected; opcode = f.opcode; address = f.address; place = f.place; slot = f.slot; count = count; judgement = f.judgement }

abbrev pub with_judgement : ℕ → Frame → Frame
with_judgement judgement f =
    record { selected = f.selected; opcode = f.opcode; address = f.address; place = f.place; slot = f.slot; count = f.count; judgement = judgement }

-- ---- the job

abbrev pub with_done : ℕ → Job → Job
with_done done j = record { kind = j.kind; start = j.start; done = done }
