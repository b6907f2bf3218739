mod PortNets
