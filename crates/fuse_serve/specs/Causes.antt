-- Why a call of a device failed: errno.h, ENOENT 2, EINTR 4, ENODEV 19, ECONNABORTED 103.
use Rattle.std.specs.Prelude.{ℤ, pos, if◌then◌else◌, Option, Some, None}
use Rattle.std.specs.Ordering.{int_eq}
use Rattle.std.specs.IoError.{raw_os_error}
use Rattle.std.specs.declared.io.Error.{Error}
use Rattle.fuse_serve.specs.declared.cause.Cause.{Cause}
use Rattle.fuse_serve.specs.declared.cause.Cause.TheVariants.{NoEntry, Interrupted, NoDevice, Other}

-- the cause that an error number names
abbrev pub cause_of_number : Option ℤ → Cause
cause_of_number None = Other
cause_of_number (Some number) =
    if int_eq number (pos 2) then NoEntry
    else if int_eq number (pos 4) then Interrupted
    else if int_eq number (pos 19) then NoDevice
    else if int_eq number (pos 103) then NoDevice
    else Other

-- the cause that an error names
abbrev pub cause_of : Error → Cause
cause_of error = cause_of_number (raw_os_error error)
