-- What a halt has the machine do, as the kernel's sysrq takes it (proc(5), /proc/sysrq-trigger).
use Rattle.std.specs.Prelude.{ℕ, ◌==◌, List, [], codes, if◌then◌else◌}

-- a reset restarts it, an off turns it off, a crashdump has it crash; any other halt is left to the watchdog
abbrev pub halt_word : ℕ → List ℕ
halt_word code =
    if code == 2 then codes "b" else if code == 3 then codes "o" else if code == 5 then codes "c" else []
