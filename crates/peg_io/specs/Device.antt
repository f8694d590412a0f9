-- What the contracts of a `Device` refer to: its inner reader or writer, and whether a call has failed.
use Rattle.std.specs.Prelude.{Bool, Option, is_some}
use Rattle.std.specs.declared.io.ErrorKind.{ErrorKind}
use Rattle.peg_io.specs.declared.device.Device.{Device}

-- the reader or writer below the device
abbrev pub inner_of : {D : Type 0} → Device D → D
inner_of device = device.inner

-- the kind of the error of the last read or write that failed
abbrev pub device_fault : {D : Type 0} → Device D → Option ErrorKind
device_fault device = device.fault

-- whether a read or a write of the device has failed
abbrev pub has_failed : {D : Type 0} → Device D → Bool
has_failed device = is_some (device_fault device)
